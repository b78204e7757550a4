-- Which words name a value.
use Rattle.std.{proofs.Common.{◌≡◌, ℕ, List, [], ◌∷◌, ◌++◌, Some, sym, ◌∙◌, ap}, specs.{Prelude.{codes, slice_get}, Fmt.{decimal}}}
use Rattle.pc_common.specs.Case.{MicroOp}
use Rattle.pc_case.specs.MicroOps.{IsNamed}
use Rattle.pc_ground.{specs.{Decimals.{IsDecimal}, NodeWords.{Lacks, IsCut}, Words.{words}}, proofs.Cuts.{cut_is, cut_has, words_last}}
use Rattle.lifted_facts.specs.declared.way.Instance.{Instance, TheVariants.{Op as OpInstance, Core as CoreInstance}}
use Rattle.lifted_check.{specs.StepLines.{IsSmall, IsValue, value_text}, proofs.SpacedWords.{words_cut, line_of_words}}
use Rattle.lifted_check.proofs.OneStep.{dotted, dot_lacks, op_is, value_lacks, one_number}

-- a word g.n, by the numbers of a micro-op
abbrev pub IsName : List ℕ → ℕ → ℕ → Type 0
IsName word g n = word ≡ decimal g ++ codes "." ++ decimal n

name_cut : (word : List ℕ) (g n : ℕ) → IsSmall g → IsName word g n → IsCut 46 word (decimal g) (decimal n)
name_cut word g n small is = (dot_lacks g small, is ∙ dotted (decimal g) (decimal n))

pub no_g : (word a b : List ℕ) → IsCut 46 word a b → ((k : ℕ) → IsDecimal a k → ⊥) → (g n : ℕ) → IsSmall g → IsSmall n → IsName word g n → ⊥
no_g word a b cut none g n hg hn is = none g (hg, sym (cut_is 46 word (decimal g) (decimal n) a b (name_cut word g n hg is) cut).0)

pub no_n : (word a b : List ℕ) → IsCut 46 word a b → ((k : ℕ) → IsDecimal b k → ⊥) → (g n : ℕ) → IsSmall g → IsSmall n → IsName word g n → ⊥
no_n word a b cut none g n hg hn is = none n (hn, sym (cut_is 46 word (decimal g) (decimal n) a b (name_cut word g n hg is) cut).1)

-- a name is no decimal, and names of the same word have the same numbers
name_number : (word : List ℕ) (g n k : ℕ) → IsSmall g → IsName word g n → IsSmall k → word ≡ decimal k → ⊥
name_number word g n k hg is hk e =
    cut_has 46 (decimal k) (decimal g) (decimal n) (dot_lacks g hg, sym e ∙ is ∙ dotted (decimal g) (decimal n)) (dot_lacks k hk)

op_name : (ops : List MicroOp) (word : List ℕ) (i : ℕ) (o : MicroOp) → slice_get ops i ≡ Some o → word ≡ value_text ops (OpInstance i) → IsName word o.g o.n
op_name ops word i o at e = e ∙ op_is ops i o at ∙ sym (dotted (decimal o.g) (decimal o.n))

pub no_such_op : (ops : List MicroOp) (word : List ℕ) (g n : ℕ) → IsSmall g → IsSmall n → IsName word g n → ((k : ℕ) → IsNamed ops g n k → ⊥)
    → (v : Instance) → IsValue ops v → word ≡ value_text ops v → ⊥
no_such_op ops word g n hg hn is none (CoreInstance k) h e = name_number word g n k hg is h e
no_such_op ops word g n hg hn is none (OpInstance i) h e =
    let o = h.0 in
    let same = cut_is 46 word (decimal o.g) (decimal o.n) (decimal g) (decimal n) (name_cut word o.g o.n h.2 (op_name ops word i o h.1 e))
    (name_cut word g n hg is) in
    none i (o, h.1, one_number o.g g h.2 hg same.0, one_number o.n n h.3 hn same.1)

-- two words as a number and a value
abbrev pub IsInstanceText : List MicroOp → List ℕ → ℕ → Instance → Type 0
IsInstanceText ops text k v = words text ≡ decimal k ∷ value_text ops v ∷ []

pub no_space : (ops : List MicroOp) (text : List ℕ) → Lacks 32 text → (k : ℕ) (v : Instance) → IsSmall k → IsValue ops v → IsInstanceText ops text k v → ⊥
no_space ops text lacks k v hk hv e = (let no : text ∷ [] ≡ decimal k ∷ value_text ops v ∷ [] = sym (words_last text lacks) ∙ e in cc)

pub no_first_number : (ops : List MicroOp) (text a b : List ℕ) → IsCut 32 text a b → ((k : ℕ) → IsDecimal a k → ⊥)
    → (k : ℕ) (v : Instance) → IsSmall k → IsValue ops v → IsInstanceText ops text k v → ⊥
no_first_number ops text a b cut none k v hk hv e =
    let both : a ∷ words b ≡ decimal k ∷ value_text ops v ∷ [] = sym (words_cut text a b cut) ∙ e in
    let first : a ≡ decimal k = cc in
    none k (hk, first)

pub no_second_value : (ops : List MicroOp) (text a b : List ℕ) → IsCut 32 text a b → ((v : Instance) → IsValue ops v → b ≡ value_text ops v → ⊥)
    → (k : ℕ) (v : Instance) → IsSmall k → IsValue ops v → IsInstanceText ops text k v → ⊥
no_second_value ops text a b cut none k v hk hv e =
    let both : a ∷ words b ≡ decimal k ∷ value_text ops v ∷ [] = sym (words_cut text a b cut) ∙ e in
    let second : words b ≡ value_text ops v ∷ [] = cc in
    none v hv (line_of_words b (value_text ops v ∷ []) second)

pub an_instance : (ops : List MicroOp) (text a b : List ℕ) → IsCut 32 text a b → (k : ℕ) (v : Instance) → IsDecimal a k → IsValue ops v → b ≡ value_text ops v
    → IsSmall k × IsValue ops v × IsInstanceText ops text k v
an_instance ops text a b cut k v d hv e = (
  d.0,
  hv,
  words_cut text a b cut ∙ ap (λ (w : List ℕ). w ∷ words b) d.1
      ∙ ap (λ (ws : List (List ℕ)). decimal k ∷ ws) (ap words e ∙ words_last (value_text ops v) (value_lacks ops v hv)),
)
