-- Words that are cut at a byte.
use Rattle.std.proofs.Common.{◌≡◌, ℕ, ◌-◌, subst, Bool, true, false, ◌||◌, ◌==◌, List, [], ◌∷◌, ◌++◌, length, take, drop, refl, sym, ◌∙◌, ap, eq-eqb, append_assoc}
use Rattle.std.{proofs.{lemmas.{Bool.{ne_eqb}, List.{length-drop}}, Math.Seq.{take-length}}, specs.{Prelude.{codes, IsTrue}, List.{list_any}}}
use Rattle.std.specs.{Str.{all_ascii_digits}, Char.{is_ascii_digit}, Fmt.{decimal}}
use Rattle.uspec_lexer.specs.Bytes.{is_name}
use Rattle.pc_ground.specs.{Decimals.{IsDecimal}, NodeForm.{IsNodeForm}, declared.node_words.NodeWords.{NodeWords}, NodeWords.{Lacks, IsCut, AreWords}}
use Rattle.pc_ground.{specs.Words.{words}, proofs.Decimals.{decimal_digits}}
use Rattle.pc_common.proofs.Bools.{and_first, and_second, or_none, not_both}

pub lacks_head : (m c : ℕ) (cs : List ℕ) → Lacks m (c ∷ cs) → (c == m) ≡ false
lacks_head m c cs h = or_left (c == m) (list_any (λ d. d == m) cs) h
  where
    or_left : (a b : Bool) → (a || b) ≡ false → a ≡ false
    or_left true b e = cc
    or_left false b e = refl

pub lacks_tail : (m c : ℕ) (cs : List ℕ) → Lacks m (c ∷ cs) → Lacks m cs
lacks_tail m c cs h = or_none (c == m) (list_any (λ d. d == m) cs) h

-- a word is cut in one way
pub one_cut : (m : ℕ) (a b c d : List ℕ) → Lacks m a → Lacks m c → a ++ m ∷ b ≡ c ++ m ∷ d → (a ≡ c) × (b ≡ d)
one_cut m [] b [] d la lc e = (refl, cc)
one_cut m [] b (y ∷ ys) d la lc e =
    let same : y ≡ m = cc in
    absurd (not_both (y == m) (eq-eqb y m same) (lacks_head m y ys lc))
one_cut m (x ∷ xs) b [] d la lc e =
    let same : x ≡ m = cc in
    absurd (not_both (x == m) (eq-eqb x m same) (lacks_head m x xs la))
one_cut m (x ∷ xs) b (y ∷ ys) d la lc e =
    let same : x ≡ y = cc in
    let rest : xs ++ m ∷ b ≡ ys ++ m ∷ d = cc in
    let r = one_cut m xs b ys d (lacks_tail m x xs la) (lacks_tail m y ys lc) rest in
    (ap (λ z. z ∷ xs) same ∙ ap (λ zs. y ∷ zs) r.0, r.1)

pub cut_is : (m : ℕ) (word a b c d : List ℕ) → IsCut m word a b → IsCut m word c d → (a ≡ c) × (b ≡ d)
cut_is m word a b c d f g = one_cut m a b c d f.0 g.0 (sym f.1 ∙ g.1)

pub cut_has : (m : ℕ) (word a b : List ℕ) → IsCut m word a b → Lacks m word → ⊥
cut_has m word a b h lacks = has a (ap (list_any (λ d. d == m)) (sym h.1) ∙ lacks)
  where
    has : (a : List ℕ) → Lacks m (a ++ m ∷ b) → ⊥
    has [] l = not_both (m == m) (eq-eqb m m refl) (lacks_head m m b l)
    has (x ∷ xs) l = has xs (lacks_tail m x (xs ++ m ∷ b) l)

-- digits lack what is none
pub digits_lack : (m : ℕ) (ds : List ℕ) → is_ascii_digit m ≡ false → all_ascii_digits ds ≡ true → Lacks m ds
digits_lack m [] other h = refl
digits_lack m (d ∷ ds) other h =
    let first = and_first (is_ascii_digit d) (all_ascii_digits ds) h in
    let differs : (d ≡ m → ⊥) = λ same. not_both (is_ascii_digit d) first (ap is_ascii_digit same ∙ other) in
    rw (ne_eqb d m differs) (digits_lack m ds other (and_second (is_ascii_digit d) (all_ascii_digits ds) h))

pub decimal_lacks : (m : ℕ) (ds : List ℕ) → is_ascii_digit m ≡ false → (k : ℕ) × IsDecimal ds k → Lacks m ds
decimal_lacks m ds other (k, h) = digits_lack m ds other (decimal_digits ds k h)

-- the form of a node's text, grouped to the right
pub form_grouped : (g n core stage : List ℕ) → g ++ codes "." ++ n ++ codes "@" ++ core ++ codes ":" ++ stage ≡ g ++ 46 ∷ (n ++ 64 ∷ (core ++ 58 ∷ stage))
form_grouped g n core stage = grouped g (codes ".") n (codes "@") core (codes ":") stage
  where
    grouped : (a b c d e f h : List ℕ) → a ++ b ++ c ++ d ++ e ++ f ++ h ≡ a ++ (b ++ (c ++ (d ++ (e ++ (f ++ h)))))
    grouped a b c d e f h = simp append_assoc

-- a word cut at `.`, then at `@`, then at `:`
pub record Cuts (word g n core stage : List ℕ) : Type 0 where
  pub g_lacks : Lacks 46 g
  pub n_lacks : Lacks 64 n
  pub core_lacks : Lacks 58 core
  pub is : word ≡ g ++ 46 ∷ (n ++ 64 ∷ (core ++ 58 ∷ stage))

pub cuts : (word g n core stage behind_g behind_n : List ℕ) → IsCut 46 word g behind_g → IsCut 64 behind_g n behind_n → IsCut 58 behind_n core stage
    → Cuts word g n core stage
cuts word g n core stage behind_g behind_n first second third = record {
  g_lacks = first.0;
  n_lacks = second.0;
  core_lacks = third.0;
  is = first.1 ∙ ap (λ xs. g ++ 46 ∷ xs) second.1 ∙ ap (λ xs. g ++ 46 ∷ (n ++ 64 ∷ xs)) third.1;
}

-- a word that has the form is cut so
form_cut : (word : List ℕ) (f : IsNodeForm word) → IsCut 46 word f.g (f.n ++ 64 ∷ (f.core ++ 58 ∷ f.stage))
form_cut word f = (decimal_lacks 46 f.g refl f.g_number, f.is ∙ form_grouped f.g f.n f.core f.stage)

form_second : (word : List ℕ) (f : IsNodeForm word) → IsCut 64 (f.n ++ 64 ∷ (f.core ++ 58 ∷ f.stage)) f.n (f.core ++ 58 ∷ f.stage)
form_second word f = (decimal_lacks 64 f.n refl f.n_number, refl)

form_third : (word : List ℕ) (f : IsNodeForm word) → IsCut 58 (f.core ++ 58 ∷ f.stage) f.core f.stage
form_third word f = (decimal_lacks 58 f.core refl f.core_number, refl)

pub no_second : (word g behind : List ℕ) → IsCut 46 word g behind → Lacks 64 behind → IsNodeForm word → ⊥
no_second word g behind first lacks f =
    let same = cut_is 46 word f.g (f.n ++ 64 ∷ (f.core ++ 58 ∷ f.stage)) g behind (form_cut word f) first in
    cut_has 64 (f.n ++ 64 ∷ (f.core ++ 58 ∷ f.stage)) f.n (f.core ++ 58 ∷ f.stage) (form_second word f) (rw same.1 lacks)

pub no_third : (word g n behind_g behind_n : List ℕ) → IsCut 46 word g behind_g → IsCut 64 behind_g n behind_n → Lacks 58 behind_n → IsNodeForm word → ⊥
no_third word g n behind_g behind_n first second lacks f =
    let one = cut_is 46 word f.g (f.n ++ 64 ∷ (f.core ++ 58 ∷ f.stage)) g behind_g (form_cut word f) first in
    let two = cut_is 64 behind_g f.n (f.core ++ 58 ∷ f.stage) n behind_n ((form_second word f).0, sym one.1) second in
    cut_has 58 (f.core ++ 58 ∷ f.stage) f.core f.stage (form_third word f) (rw two.1 lacks)

-- two ways to cut a word are one
pub same_cuts : {word g n core stage g' n' core' stage' : List ℕ} → Cuts word g n core stage → Cuts word g' n' core' stage'
    → (g ≡ g') × (n ≡ n') × (core ≡ core') × (stage ≡ stage')
same_cuts {word} {g} {n} {core} {stage} {g'} {n'} {core'} {stage'} c d =
    let one = one_cut 46 g (n ++ 64 ∷ (core ++ 58 ∷ stage)) g' (n' ++ 64 ∷ (core' ++ 58 ∷ stage')) c.g_lacks d.g_lacks (sym c.is ∙ d.is) in
    let two = one_cut 64 n (core ++ 58 ∷ stage) n' (core' ++ 58 ∷ stage') c.n_lacks d.n_lacks one.1 in
    let three = one_cut 58 core stage core' stage' c.core_lacks d.core_lacks two.1 in
    (one.0, two.0, three.0, three.1)

pub form_cuts : {word : List ℕ} (f : IsNodeForm word) → Cuts word f.g f.n f.core f.stage
form_cuts {word} f = record {
  g_lacks = decimal_lacks 46 f.g refl f.g_number;
  n_lacks = decimal_lacks 64 f.n refl f.n_number;
  core_lacks = decimal_lacks 58 f.core refl f.core_number;
  is = f.is ∙ form_grouped f.g f.n f.core f.stage;
}

pub no_name : {word g n core stage : List ℕ} → Cuts word g n core stage → is_name stage ≡ false → IsNodeForm word → ⊥
no_name {word} {g} {n} {core} {stage} c other f = not_both (is_name stage) (rw (sym (same_cuts (form_cuts f) c).3) f.stage_name) other

-- a part that is no decimal
pub no_g : {word g n core stage : List ℕ} → Cuts word g n core stage → ((k : ℕ) → IsDecimal g k → ⊥) → IsNodeForm word → ⊥
no_g {word} {g} {n} {core} {stage} c other f =
    (let P : List ℕ → Type 0 = λ xs. (k : ℕ) × IsDecimal xs k in let h = subst P (same_cuts (form_cuts f) c).0 f.g_number in other h.0 h.1)

pub no_n : {word g n core stage : List ℕ} → Cuts word g n core stage → ((k : ℕ) → IsDecimal n k → ⊥) → IsNodeForm word → ⊥
no_n {word} {g} {n} {core} {stage} c other f =
    (let P : List ℕ → Type 0 = λ xs. (k : ℕ) × IsDecimal xs k in let h = subst P (same_cuts (form_cuts f) c).1 f.n_number in other h.0 h.1)

pub no_core : {word g n core stage : List ℕ} → Cuts word g n core stage → ((k : ℕ) → IsDecimal core k → ⊥) → IsNodeForm word → ⊥
no_core {word} {g} {n} {core} {stage} c other f =
    (let P : List ℕ → Type 0 = λ xs. (k : ℕ) × IsDecimal xs k in let h = subst P (same_cuts (form_cuts f) c).2 f.core_number in other h.0 h.1)

pub all_left : (j : ℕ) (word : List ℕ) → take (length word - j) (drop j word) ≡ drop j word
all_left j word = ap (λ n. take n (drop j word)) (sym (length-drop j word)) ∙ take-length (drop j word)

-- the words of a node's text as its cuts, and as its form
pub words_cuts : {word : List ℕ} {w : NodeWords} → AreWords word w → Cuts word (decimal w.g) (decimal w.n) (decimal w.core) w.stage.now
words_cuts {word} {w} h = record {
  g_lacks = decimal_lacks 46 (decimal w.g) refl (w.g, (h.g, refl));
  n_lacks = decimal_lacks 64 (decimal w.n) refl (w.n, (h.n, refl));
  core_lacks = decimal_lacks 58 (decimal w.core) refl (w.core, (h.core, refl));
  is = h.is ∙ form_grouped (decimal w.g) (decimal w.n) (decimal w.core) w.stage.now;
}

pub words_form : {word : List ℕ} {w : NodeWords} → AreWords word w → IsTrue (is_name w.stage.now) → IsNodeForm word
words_form {word} {w} h name = record {
  g = decimal w.g;
  n = decimal w.n;
  core = decimal w.core;
  stage = w.stage.now;
  g_number = (w.g, (h.g, refl));
  n_number = (w.n, (h.n, refl));
  core_number = (w.core, (h.core, refl));
  stage_name = name;
  is = h.is;
}

-- the last word, and the first of several
pub words_last : (xs : List ℕ) → Lacks 32 xs → words xs ≡ xs ∷ []
words_last [] h = refl
words_last (x ∷ xs) h = rw (lacks_head 32 x xs h, words_last xs (lacks_tail 32 x xs h))

pub words_more : (xs ys : List ℕ) → Lacks 32 xs → words (xs ++ 32 ∷ ys) ≡ xs ∷ words ys
words_more [] ys h = refl
words_more (x ∷ xs) ys h = rw (lacks_head 32 x xs h, words_more xs ys (lacks_tail 32 x xs h))
