-- No two graph lines of a question's names have one text.
use Rattle.std.{proofs.{Common.{◌≡◌, ℕ, List, [], ◌∷◌, ◌++◌, sym, ◌∙◌, ap}, lemmas.List.{append-nil}}, specs.Prelude.{codes}}
use Rattle.pc_common.specs.{World.{Node}, Lines.{Names, node, edge, node_text, line_words}}
use Rattle.pc_ground.{specs.NodeForm.{IsNodeIn, AreReadable}, proofs.{Cuts.{one_cut}, Outside.{a_space}}}
use Rattle.cert_check.proofs.Bytes.{node_lacks}

one_node_text : (names : Names) (a b : Node) → line_words names (node a) ≡ line_words names (node b) → node_text names a ≡ node_text names b
one_node_text names a b e =
    let tails : node_text names a ++ [] ≡ node_text names b ++ [] = cc in
    sym (append-nil (node_text names a)) ∙ tails ∙ append-nil (node_text names b)

pub one_node_line : (names : Names) → AreReadable names → (a b : Node) → IsNodeIn names a → IsNodeIn names b
    → line_words names (node a) ≡ line_words names (node b) → a ≡ b
one_node_line names readable a b h k e = readable.apart a b h k (one_node_text names a b e)

-- two words after a word and a space each
same_tails : (a b c d : List ℕ)
    → codes "edge" ++ ((codes " " ++ a) ++ ((codes " " ++ b) ++ [])) ≡ codes "edge" ++ ((codes " " ++ c) ++ ((codes " " ++ d) ++ []))
    → a ++ 32 ∷ (b ++ []) ≡ c ++ 32 ∷ (d ++ [])
same_tails a b c d e = cc

same_words : (a b c d : List ℕ) → a ++ 32 ∷ (b ++ []) ≡ c ++ 32 ∷ (d ++ []) → a ++ 32 ∷ b ≡ c ++ 32 ∷ d
same_words a b c d e =
    ap (λ (t : List ℕ). a ++ 32 ∷ t) (sym (append-nil b)) ∙ e ∙ ap (λ (t : List ℕ). c ++ 32 ∷ t) (append-nil d)

pub one_edge_line : (names : Names) → AreReadable names → (a b c d : Node) → IsNodeIn names a → IsNodeIn names b → IsNodeIn names c → IsNodeIn names d
    → line_words names (edge a b) ≡ line_words names (edge c d) → edge a b ≡ edge c d
one_edge_line names readable a b c d ha hb hc hd e =
    let ta = node_text names a in let tb = node_text names b in let tc = node_text names c in let td = node_text names d in
    let plain = same_words ta tb tc td (same_tails ta tb tc td e) in
    let cut = one_cut 32 ta tb tc td (node_lacks 32 a_space names readable a ha) (node_lacks 32 a_space names readable c hc) plain in
    ap (λ (x : Node). edge x b) (readable.apart a c ha hc cut.0) ∙ ap (λ (y : Node). edge c y) (readable.apart b d hb hd cut.1)
