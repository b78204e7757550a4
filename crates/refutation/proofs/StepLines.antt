-- The lines of steps and their words: each says the other, and no two steps have one line.
use Rattle.std.proofs.Common.{◌≡◌, ℕ, Bool, true, false, List, [], ◌∷◌, ◌++◌, map, get_or, refl, sym, ◌∙◌, ap, arith, subst, drop}
use Rattle.std.proofs.lemmas.{Fmt.{decimal_injective}, List.{append-nil, Elements.{All-nil, All-cons, All-head, All-tail, All-map, All-weaker}}}
use Rattle.std.specs.{Prelude.{All, codes}, Fmt.{decimal}}
use Rattle.pc_common.specs.{World.{Node}, Steps.{Leaf, cycle, path, absent, false_step, Step as PlainStep, split, close}}
use Rattle.pc_common.specs.Lines.{Names, node_text, nodes_text, sign_text, leaf_words, step_words}
use Rattle.pc_ground.{specs.{Decimals.{IsDecimal}, NodeForm.{IsNodeForm, IsNodeIn, AreReadable}, NodeWords.{Lacks}, Words.{words}}, proofs.Cuts.{decimal_lacks}}
use Rattle.refutation.specs.{Steps.{IsLeafIn, IsStepIn, HasLine}, Words.{words_text}}
use Rattle.refutation.specs.StepWords.{words_of_leaf, words_of_step, AreWordsOf, AreOfForm, of_split, of_cycle, of_path, of_absence, of_falsity}
use Rattle.refutation.specs.Reading.{IsLineOf, IsStepForm, a_split, a_cycle, a_path, an_absence, a_falsity}
use Rattle.refutation.proofs.LineWords.{words_spaced, line_spaced, form_spaceless, forms_lack}

nodes_spaced : (names : Names) (nodes : List Node) → nodes_text names nodes ≡ words_text (map (node_text names) nodes)
nodes_spaced names [] = refl
nodes_spaced names (a ∷ more) = ap (λ r. (codes " " ++ node_text names a) ++ r) (nodes_spaced names more)

-- the nodes' texts have no space
texts_lack : (names : Names) → AreReadable names → (nodes : List Node) → All (IsNodeIn names) nodes → All (Lacks 32) (map (node_text names) nodes)
texts_lack names readable nodes inside =
    All-map (Lacks 32) (node_text names) nodes
    (All-weaker (IsNodeIn names) (λ a. Lacks 32 (node_text names a)) (λ a i. form_spaceless (node_text names a) (readable.form a i)) nodes inside)

one_lacks : (w : List ℕ) → Lacks 32 w → All (Lacks 32) (w ∷ [])
one_lacks w h = All-cons (Lacks 32) w [] h (All-nil (Lacks 32))

-- a line of two words
two_words : (w v : List ℕ) → Lacks 32 w → Lacks 32 v → words (w ++ 32 ∷ v) ≡ w ∷ v ∷ []
two_words w v h k = ap (λ r. words (w ++ 32 ∷ r)) (sym (append-nil v)) ∙ words_spaced w (v ∷ []) h (one_lacks v k)

line_two : (line w v : List ℕ) → words line ≡ w ∷ v ∷ [] → line ≡ w ++ 32 ∷ v
line_two line w v e = line_spaced line w (v ∷ []) e ∙ ap (λ r. w ++ 32 ∷ r) (append-nil v)

words_of_nodes : (names : Names) → AreReadable names → (w : List ℕ) → Lacks 32 w → (nodes : List Node) → All (IsNodeIn names) nodes
    → words (w ++ nodes_text names nodes) ≡ w ∷ map (node_text names) nodes
words_of_nodes names readable w h nodes inside =
    ap (λ r. words (w ++ r)) (nodes_spaced names nodes) ∙ words_spaced w (map (node_text names) nodes) h (texts_lack names readable nodes inside)

line_of_nodes : (names : Names) (line w : List ℕ) (nodes : List Node) → words line ≡ w ∷ map (node_text names) nodes → line ≡ w ++ nodes_text names nodes
line_of_nodes names line w nodes e = line_spaced line w (map (node_text names) nodes) e ∙ ap (λ r. w ++ r) (sym (nodes_spaced names nodes))

-- a decimal after a sign has no space, and none begins with a sign
pub signed_lacks : (negated : Bool) (digits : List ℕ) (p : ℕ) → IsDecimal digits p → Lacks 32 (sign_text negated ++ digits)
signed_lacks true digits p d = decimal_lacks 32 digits refl (p, d)
signed_lacks false digits p d = decimal_lacks 32 digits refl (p, d)

pub no_sign : (digits rest : List ℕ) (p : ℕ) → IsDecimal digits p → digits ≡ codes "~" ++ rest → ⊥
no_sign digits rest p d e =
    let P : List ℕ → Type 0 = λ xs. Lacks 126 xs in
    let h : Lacks 126 (126 ∷ rest) = subst P e (decimal_lacks 126 digits refl (p, d)) in
    cc

-- a text is a sign and a decimal in one way
pub same_signed : (m n : Bool) (ds es : List ℕ) (p q : ℕ) → IsDecimal ds p → IsDecimal es q → sign_text m ++ ds ≡ sign_text n ++ es → (m ≡ n) × (ds ≡ es)
same_signed true true ds es p q d e is = (refl, ap (λ xs. drop 1 xs) is)
same_signed true false ds es p q d e is = absurd (no_sign es ds q e (sym is))
same_signed false true ds es p q d e is = absurd (no_sign ds es p d is)
same_signed false false ds es p q d e is = (refl, is)

leaf_spelled : (names : Names) → AreReadable names → (line : List ℕ) (l : Leaf Node) → IsLeafIn names l
    → line ≡ leaf_words names l → words line ≡ words_of_leaf names l
leaf_spelled names readable line (cycle nodes) inside is = ap words is ∙ words_of_nodes names readable (codes "cycle") refl nodes inside
leaf_spelled names readable line (path nodes) inside is = ap words is ∙ words_of_nodes names readable (codes "path") refl nodes inside
leaf_spelled names readable line (absent a) inside is =
    ap words is ∙ words_of_nodes names readable (codes "absent") refl (a ∷ []) (All-cons (IsNodeIn names) a [] inside (All-nil (IsNodeIn names)))
leaf_spelled names readable line false_step inside is = ap words is

step_spelled : (names : Names) → AreReadable names → (line : List ℕ) (s : PlainStep Node) → HasLine s → IsStepIn names s
    → line ≡ step_words names s → words line ≡ words_of_step names s
step_spelled names readable line (split negated p) small inside is =
    ap words is ∙ two_words (codes "split") (sign_text negated ++ decimal p) refl (signed_lacks negated (decimal p) p (small, refl))
step_spelled names readable line (close l) has inside is = leaf_spelled names readable line l inside is

leaf_line : (names : Names) (line : List ℕ) (l : Leaf Node) → words line ≡ words_of_leaf names l → line ≡ leaf_words names l
leaf_line names line (cycle nodes) e = line_of_nodes names line (codes "cycle") nodes e
leaf_line names line (path nodes) e = line_of_nodes names line (codes "path") nodes e
leaf_line names line (absent a) e = line_of_nodes names line (codes "absent") (a ∷ []) e
leaf_line names line false_step e = line_spaced line (codes "false") [] e

line_of_step : (names : Names) (line : List ℕ) (s : PlainStep Node) → words line ≡ words_of_step names s → line ≡ step_words names s
line_of_step names line (split negated p) e = line_two line (codes "split") (sign_text negated ++ decimal p) e
line_of_step names line (close l) e = leaf_line names line l e

pub words_of_line : (names : Names) → AreReadable names → (line : List ℕ) (s : PlainStep Node) → IsLineOf names line s → AreWordsOf names (words line) s
words_of_line names readable line s h =
    record { has_line = h.has_line; inside = h.inside; are = step_spelled names readable line s h.has_line h.inside h.is }

pub line_of_words : (names : Names) (line : List ℕ) (s : PlainStep Node) → AreWordsOf names (words line) s → IsLineOf names line s
line_of_words names line s h = record { has_line = h.has_line; inside = h.inside; is = line_of_step names line s h.are }

-- the form of a line is that of its words
pub form_of_line : (line : List ℕ) → IsStepForm line → AreOfForm (words line)
form_of_line line (a_split negated digits p d is) =
    of_split negated digits p d (ap words is ∙ two_words (codes "split") (sign_text negated ++ digits) refl (signed_lacks negated digits p d))
form_of_line line (a_cycle a more f fs is) =
    let all = All-cons IsNodeForm a more f fs in
    of_cycle a more all (ap words is ∙ words_spaced (codes "cycle") (a ∷ more) refl (forms_lack (a ∷ more) all))
form_of_line line (a_path a b more f g fs is) =
    let all = All-cons IsNodeForm a (b ∷ more) f (All-cons IsNodeForm b more g fs) in
    of_path a b more all (ap words is ∙ words_spaced (codes "path") (a ∷ b ∷ more) refl (forms_lack (a ∷ b ∷ more) all))
form_of_line line (an_absence a f is) = of_absence a f (ap words is ∙ two_words (codes "absent") a refl (form_spaceless a f))
form_of_line line (a_falsity is) = of_falsity (ap words is)

pub line_of_form : (line : List ℕ) → AreOfForm (words line) → IsStepForm line
line_of_form line (of_split negated digits p d e) = a_split negated digits p d (line_two line (codes "split") (sign_text negated ++ digits) e)
line_of_form line (of_cycle a more all e) =
    a_cycle a more (All-head IsNodeForm a more all) (All-tail IsNodeForm a more all) (line_spaced line (codes "cycle") (a ∷ more) e)
line_of_form line (of_path a b more all e) =
    let rest = All-tail IsNodeForm a (b ∷ more) all in
    a_path a b more (All-head IsNodeForm a (b ∷ more) all) (All-head IsNodeForm b more rest) (All-tail IsNodeForm b more rest)
    (line_spaced line (codes "path") (a ∷ b ∷ more) e)
line_of_form line (of_absence a f e) = an_absence a f (line_two line (codes "absent") a e)
line_of_form line (of_falsity e) = a_falsity (line_spaced line (codes "false") [] e)

-- the words after the first
abbrev pub behind : List (List ℕ) → List (List ℕ)
behind [] = []
behind (w ∷ ws) = ws

abbrev pub first_text : List (List ℕ) → List ℕ
first_text [] = []
first_text (w ∷ ws) = w

same_nodes : (names : Names) → AreReadable names → (xs ys : List Node) → All (IsNodeIn names) xs → All (IsNodeIn names) ys
    → map (node_text names) xs ≡ map (node_text names) ys → xs ≡ ys
same_nodes names readable [] [] hx hy e = refl
same_nodes names readable [] (y ∷ ys) hx hy e = cc
same_nodes names readable (x ∷ xs) [] hx hy e = cc
same_nodes names readable (x ∷ xs) (y ∷ ys) hx hy e =
    let first : x ≡ y = readable.apart x y (All-head (IsNodeIn names) x xs hx) (All-head (IsNodeIn names) y ys hy) (ap first_text e) in
    let rest : xs ≡ ys = same_nodes names readable xs ys (All-tail (IsNodeIn names) x xs hx) (All-tail (IsNodeIn names) y ys hy) (ap behind e) in
    ap (λ z. z ∷ xs) first ∙ ap (λ zs. y ∷ zs) rest

-- no two words begin alike
abbrev pub initial : List (List ℕ) → ℕ
initial ws = get_or (first_text ws) 0 0

same_leaf : (names : Names) → AreReadable names → (k l : Leaf Node) → IsLeafIn names k → IsLeafIn names l
    → words_of_leaf names k ≡ words_of_leaf names l → k ≡ l
same_leaf names readable (cycle xs) (cycle ys) i j e = ap cycle (same_nodes names readable xs ys i j (ap behind e))
same_leaf names readable (path xs) (path ys) i j e = ap path (same_nodes names readable xs ys i j (ap behind e))
same_leaf names readable (absent a) (absent b) i j e = ap absent (readable.apart a b i j (ap (λ ws. first_text (behind ws)) e))
same_leaf names readable false_step false_step i j e = refl
same_leaf names readable k l i j e = let d = ap initial e in absurd (omega (arith, d))

-- a split's word begins otherwise than each leaf's
split_apart : (names : Names) (negated : Bool) (p : ℕ) (l : Leaf Node) → words_of_step names (split negated p) ≡ words_of_leaf names l → ⊥
split_apart names negated p (cycle nodes) e = let d = ap initial e in omega (arith, d)
split_apart names negated p (path nodes) e = let d = ap initial e in omega (arith, d)
split_apart names negated p (absent a) e = let d = ap initial e in omega (arith, d)
split_apart names negated p false_step e = let d = ap initial e in omega (arith, d)

same_words : (names : Names) → AreReadable names → (s t : PlainStep Node) → HasLine s → HasLine t → IsStepIn names s → IsStepIn names t
    → words_of_step names s ≡ words_of_step names t → s ≡ t
same_words names readable (split m p) (split n q) sp sq i j e =
    let same = same_signed m n (decimal p) (decimal q) p q (sp, refl) (sq, refl) (ap (λ ws. first_text (behind ws)) e) in
    ap (λ b. split b p) same.0 ∙ ap (split n) (decimal_injective p q (omega (arith, sp)) (omega (arith, sq)) same.1)
same_words names readable (split m p) (close l) sp sq i j e = absurd (split_apart names m p l e)
same_words names readable (close k) (split n q) sp sq i j e = absurd (split_apart names n q k (sym e))
same_words names readable (close k) (close l) sp sq i j e = ap close (same_leaf names readable k l i j e)

-- a line is one step's
pub same_step : (names : Names) → AreReadable names → (ws : List (List ℕ)) (s t : PlainStep Node) → AreWordsOf names ws s → AreWordsOf names ws t → s ≡ t
same_step names readable ws s t f g = same_words names readable s t f.has_line g.has_line f.inside g.inside (sym f.are ∙ g.are)

-- a step's line has the form
pub step_formed : (names : Names) → AreReadable names → (ws : List (List ℕ)) (s : PlainStep Node) → AreWordsOf names ws s → AreOfForm ws
step_formed names readable ws s h = by_step s h.has_line h.inside h.are
  where
    forms : (nodes : List Node) → All (IsNodeIn names) nodes → All IsNodeForm (map (node_text names) nodes)
    forms nodes inside = All-map IsNodeForm (node_text names) nodes
        (All-weaker (IsNodeIn names) (λ a. IsNodeForm (node_text names a)) readable.form nodes inside)

    by_step : (s : PlainStep Node) → HasLine s → IsStepIn names s → ws ≡ words_of_step names s → AreOfForm ws
    by_step (split negated p) has inside are = of_split negated (decimal p) p (has, refl) are
    by_step (close (cycle [])) has inside are = absurd has
    by_step (close (cycle (a ∷ more))) has inside are = of_cycle (node_text names a) (map (node_text names) more) (forms (a ∷ more) inside) are
    by_step (close (path [])) has inside are = absurd has
    by_step (close (path (a ∷ []))) has inside are = absurd has
    by_step (close (path (a ∷ b ∷ more))) has inside are =
        of_path (node_text names a) (node_text names b) (map (node_text names) more) (forms (a ∷ b ∷ more) inside) are
    by_step (close (absent a)) has inside are = of_absence (node_text names a) (readable.form a inside) are
    by_step (close false_step) has inside are = of_falsity are
