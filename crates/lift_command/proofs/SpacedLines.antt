-- Lines as words with a space between two, and that no LF stands in them.
use Rattle.std.proofs.Common.{◌≡◌, ◌≢◌, ℕ, Bool, true, false, ◌||◌, ◌==◌, List, [], ◌∷◌, ◌++◌, map, refl, sym, ◌∙◌, ap, subst, append_assoc, eq-eqb}
use Rattle.std.{proofs.lemmas.List.{append-nil, Elements.{All-nil, All-cons, All-head, All-tail}}, specs.Prelude.{All, codes}}
use Rattle.std.specs.{List.{list_any, join_with_byte}, Fmt.{decimal}}
use Rattle.pc_common.specs.{Case.{MicroOp}, Lines.{op_text}}
use Rattle.pc_ground.{specs.NodeWords.{Lacks}, proofs.Cuts.{decimal_lacks}}
use Rattle.line_judge.specs.Texts.{IsLine}
use Rattle.lifted_facts.specs.declared.way.Instance.{Instance, TheVariants.{Op as OpInstance, Core as CoreInstance}}
use Rattle.lifted_facts.specs.declared.way.Way.TheVariants.{Left as LeftWay, Right as RightWay, Not as NotWay, Bind as BindWay, Inst as InstWay, Member as MemberWay}
use Rattle.lifted_facts.specs.Lifted.{LiftedStep, derive, split, close, falsity, cycle, path, absent}
use Rattle.lifted_check.specs.StepLines.{keyword_text, keyword_of, numbers_of, value_text, value_words, IsSmall, IsValue, HasValue}
use Rattle.lift_command.specs.WrittenLines.{line_of, spaced_words}

pub joined_spaced : (w : List ℕ) (ws : List (List ℕ)) → join_with_byte 32 (w ∷ ws) ≡ w ++ spaced_words ws
joined_spaced w [] = sym (append-nil w)
joined_spaced w (v ∷ vs) = ap (λ (r : List ℕ). w ++ 32 ∷ r) (joined_spaced v vs)

pub spaced_more : (xs ys : List (List ℕ)) → spaced_words (xs ++ ys) ≡ spaced_words xs ++ spaced_words ys
spaced_more [] ys = refl
spaced_more (x ∷ xs) ys =
    ap (λ (r : List ℕ). (codes " " ++ x) ++ r) (spaced_more xs ys) ∙ sym (append_assoc (codes " " ++ x) (spaced_words xs) (spaced_words ys))

-- a line is its keyword, and then its numbers and its value after spaces
pub line_is : (ops : List MicroOp) (s : LiftedStep)
    → line_of ops s ≡ keyword_text (keyword_of s) ++ (spaced_words (map decimal (numbers_of s)) ++ spaced_words (value_words ops s))
line_is ops s =
    joined_spaced (keyword_text (keyword_of s)) (map decimal (numbers_of s) ++ value_words ops s)
    ∙ ap (λ (r : List ℕ). keyword_text (keyword_of s) ++ r) (spaced_more (map decimal (numbers_of s)) (value_words ops s))

or_two : (b c d : Bool) → (b || c) ≡ false → (c ≡ false → d ≡ false) → (b || d) ≡ false
or_two true c d e f = cc
or_two false c d e f = f e

lacks_append : (m : ℕ) (xs ys : List ℕ) → Lacks m xs → Lacks m ys → Lacks m (xs ++ ys)
lacks_append m [] ys h k = k
lacks_append m (x ∷ xs) ys h k = or_two (x == m) (list_any (λ c. c == m) xs) (list_any (λ c. c == m) (xs ++ ys)) h (λ e. lacks_append m xs ys e k)

keyword_lacks : (s : LiftedStep) → Lacks 10 (keyword_text (keyword_of s))
keyword_lacks (derive LeftWay k) = refl
keyword_lacks (derive RightWay k) = refl
keyword_lacks (derive NotWay k) = refl
keyword_lacks (derive BindWay k) = refl
keyword_lacks (derive (InstWay v) k) = refl
keyword_lacks (derive (MemberWay j) k) = refl
keyword_lacks (split k) = refl
keyword_lacks (close (falsity k)) = refl
keyword_lacks (close (cycle k ks)) = refl
keyword_lacks (close (path k ks denial)) = refl
keyword_lacks (close (absent denial k)) = refl

number_lacks : (k : ℕ) → IsSmall k → Lacks 10 (decimal k)
number_lacks k small = decimal_lacks 10 (decimal k) refl (k, (small, refl))

numbers_lack : (ks : List ℕ) → All IsSmall ks → Lacks 10 (spaced_words (map decimal ks))
numbers_lack [] h = refl
numbers_lack (k ∷ ks) h =
    lacks_append 10 (codes " " ++ decimal k) (spaced_words (map decimal ks)) (number_lacks k (All-head IsSmall k ks h))
    (numbers_lack ks (All-tail IsSmall k ks h))

value_lacks : (ops : List MicroOp) (v : Instance) → IsValue ops v → Lacks 10 (value_text ops v)
value_lacks ops (CoreInstance k) h = number_lacks k h
value_lacks ops (OpInstance i) h =
    (let o = h.0 in
    let P : List ℕ → Type 0 = λ w. Lacks 10 w in
    subst P (sym (ap op_text h.1))
    (lacks_append 10 (decimal o.g ++ codes ".") (decimal o.n) (lacks_append 10 (decimal o.g) (codes ".") (number_lacks o.g h.2) refl) (number_lacks o.n h.3)))

values_lack : (ops : List MicroOp) (s : LiftedStep) → HasValue ops s → Lacks 10 (spaced_words (value_words ops s))
values_lack ops (derive (InstWay v) k) h = lacks_append 10 (codes " " ++ value_text ops v) [] (value_lacks ops v h) refl
values_lack ops (derive LeftWay k) h = refl
values_lack ops (derive RightWay k) h = refl
values_lack ops (derive NotWay k) h = refl
values_lack ops (derive BindWay k) h = refl
values_lack ops (derive (MemberWay j) k) h = refl
values_lack ops (split k) h = refl
values_lack ops (close l) h = refl

or_parts : (b c : Bool) → (b || c) ≡ false → (b ≡ false) × (c ≡ false)
or_parts true c e = cc
or_parts false c e = (refl, e)

pub lacks_line : (xs : List ℕ) → Lacks 10 xs → IsLine xs
lacks_line [] h = All-nil (λ byte. byte ≢ 10)
lacks_line (x ∷ xs) h =
    let parts = or_parts (x == 10) (list_any (λ c. c == 10) xs) h in
    All-cons (λ byte. byte ≢ 10) x xs (λ same. let agreed = eq-eqb x 10 same in let clash : true ≡ false = sym agreed ∙ parts.0 in cc) (lacks_line xs parts.1)

pub line_fits : (ops : List MicroOp) (s : LiftedStep) → All IsSmall (numbers_of s) → HasValue ops s → IsLine (line_of ops s)
line_fits ops s small value =
    let P : List ℕ → Type 0 = λ xs. IsLine xs in
    subst P (sym (line_is ops s))
    (lacks_line (keyword_text (keyword_of s) ++ (spaced_words (map decimal (numbers_of s)) ++ spaced_words (value_words ops s)))
    (lacks_append 10 (keyword_text (keyword_of s)) (spaced_words (map decimal (numbers_of s)) ++ spaced_words (value_words ops s)) (keyword_lacks s)
    (lacks_append 10 (spaced_words (map decimal (numbers_of s))) (spaced_words (value_words ops s)) (numbers_lack (numbers_of s) small)
    (values_lack ops s value))))
