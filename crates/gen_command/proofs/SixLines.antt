-- The six lines by their pieces.
use Rattle.std.{proofs.Common.{◌≡◌, ℕ, List, ◌++◌, append_assoc}, specs.{Prelude.{codes}, Fmt.{decimal}}}
use Rattle.pc_common.specs.Lines.{Verdict, verdict_text}
use Rattle.gen_command.specs.Texts.{ring_text}

grouped : (a b c d e f g h i j k l m n : List ℕ)
    → a ++ (b ++ (c ++ ((d ++ c) ++ (e ++ (f ++ (g ++ (h ++ (i ++ (j ++ (k ++ (l ++ (m ++ n))))))))))))
    ≡ a ++ b ++ c ++ d ++ c ++ e ++ f ++ g ++ h ++ i ++ j ++ k ++ l ++ m ++ n
grouped a b c d e f g h i j k l m n = simp append_assoc

pub six_lines : (cores line nodes splits leaves : List ℕ) (n a b l : ℕ) (v : Verdict)
    → cores ≡ decimal n → line ≡ verdict_text v ++ codes "\n" → nodes ≡ decimal a → splits ≡ decimal b → leaves ≡ decimal l
    → codes "gen " ++ (cores ++ (codes "\n" ++ (line ++ (codes "nodes " ++ (nodes ++ (codes "\n" ++ (codes "splits " ++ (splits ++ (codes "\n"
    ++ (codes "leaves " ++ (leaves ++ (codes "\n" ++ codes "end\n")))))))))))) ≡ ring_text n v a b l
six_lines cores line nodes splits leaves n a b l v p q r s t =
    rw (p, q, r, s, t) (grouped (codes "gen ") (decimal n) (codes "\n") (verdict_text v) (codes "nodes ") (decimal a) (codes "\n") (codes "splits ") (decimal b)
    (codes "\n") (codes "leaves ") (decimal l) (codes "\n") (codes "end\n"))
