-- A line is that of one step, and what its words are.
use Rattle.std.proofs.Common.{◌≡◌, ◌≢◌, ◌⊎◌, inl, inr, ℕ, ◌==◌, List, [], ◌∷◌, ◌++◌, Some, get_or, map, refl, sym, ◌∙◌, ap, subst, append_assoc}
use Rattle.std.{proofs.lemmas.List.{append-nil, Elements.{All-nil, All-cons, All-head, All-tail}}, specs.Prelude.{All, codes, slice_get, if◌then◌else◌}}
use Rattle.std.specs.Fmt.{decimal}
use Rattle.pc_common.specs.{Case.{MicroOp}, Lines.{op_text}}
use Rattle.pc_case.specs.MicroOps.{AreMicroOps}
use Rattle.pc_ground.{specs.{Decimals.{read_on}, NodeWords.{Lacks}, Words.{words}}, proofs.{Decimals.{decimal_read}, Cuts.{one_cut, cut_has, decimal_lacks}}}
use Rattle.pc_ground.proofs.Outside.{lacks_append}
use Rattle.lifted_facts.specs.declared.way.Instance.{Instance, TheVariants.{Op as OpInstance, Core as CoreInstance}}
use Rattle.lifted_facts.specs.declared.way.Way.TheVariants.{Left as LeftWay, Right as RightWay, Not as NotWay, Bind as BindWay, Inst as InstWay, Member as MemberWay}
use Rattle.lifted_facts.specs.Lifted.{LiftedStep, derive, split, close, falsity, cycle, path, absent}
use Rattle.lifted_check.specs.StepLines.{keyword_text, keyword_of, numbers_of, value_text, value_words, step_words, IsSmall, IsValue, HasValue, IsStepLine}
use Rattle.lifted_check.specs.{Decoding.{decoded}, declared.keyword.Keyword.{Keyword}}
use Rattle.lifted_check.specs.declared.keyword.Keyword.TheVariants.{Left, Right, Not, Bind, Inst, Member, Split, False, Cycle, Path, Absent}
use Rattle.lifted_check.proofs.{SpacedWords.{words_joined, line_of_words}, DecodedSteps.{IsPlain, IsInstance, kind_of, decoded_is}}

-- a keyword by its first byte
abbrev by_byte : ℕ → Keyword
by_byte c =
    if c == 108 then Left else if c == 114 then Right else if c == 110 then Not else if c == 98 then Bind else if c == 105 then Inst else
    if c == 109 then Member else if c == 115 then Split else if c == 102 then False else if c == 99 then Cycle else if c == 112 then Path else Absent

by_byte_is : (k : Keyword) → by_byte (get_or (keyword_text k) 0 0) ≡ k
by_byte_is Left = refl
by_byte_is Right = refl
by_byte_is Not = refl
by_byte_is Bind = refl
by_byte_is Inst = refl
by_byte_is Member = refl
by_byte_is Split = refl
by_byte_is False = refl
by_byte_is Cycle = refl
by_byte_is Path = refl
by_byte_is Absent = refl

pub one_keyword : (j k : Keyword) → keyword_text j ≡ keyword_text k → j ≡ k
one_keyword j k e = sym (by_byte_is j) ∙ ap (λ (w : List ℕ). by_byte (get_or w 0 0)) e ∙ by_byte_is k

keyword_lacks : (k : Keyword) → Lacks 32 (keyword_text k)
keyword_lacks Left = refl
keyword_lacks Right = refl
keyword_lacks Not = refl
keyword_lacks Bind = refl
keyword_lacks Inst = refl
keyword_lacks Member = refl
keyword_lacks Split = refl
keyword_lacks False = refl
keyword_lacks Cycle = refl
keyword_lacks Path = refl
keyword_lacks Absent = refl

-- decimals
pub number_lacks : (k : ℕ) → IsSmall k → Lacks 32 (decimal k)
number_lacks k small = decimal_lacks 32 (decimal k) refl (k, (small, refl))

pub one_number : (j k : ℕ) → IsSmall j → IsSmall k → decimal j ≡ decimal k → j ≡ k
one_number j k hj hk e = sym (decimal_read (decimal j) j (hj, refl)) ∙ ap (read_on 0) e ∙ decimal_read (decimal k) k (hk, refl)

pub one_row : (js ks : List ℕ) → All IsSmall js → All IsSmall ks → map decimal js ≡ map decimal ks → js ≡ ks
one_row [] [] hj hk e = refl
one_row [] (k ∷ ks) hj hk e = cc
one_row (j ∷ js) [] hj hk e = cc
one_row (j ∷ js) (k ∷ ks) hj hk e =
    let first : decimal j ≡ decimal k = cc in
    let rest : map decimal js ≡ map decimal ks = cc in
    ap (λ (x : ℕ). x ∷ js) (one_number j k (All-head IsSmall j js hj) (All-head IsSmall k ks hk) first)
    ∙ ap (λ (xs : List ℕ). k ∷ xs) (one_row js ks (All-tail IsSmall j js hj) (All-tail IsSmall k ks hk) rest)

-- a micro-op's name, cut at its dot
pub dotted : (g n : List ℕ) → g ++ codes "." ++ n ≡ g ++ 46 ∷ n
dotted g n = append_assoc g (codes ".") n

pub op_is : (ops : List MicroOp) (i : ℕ) (o : MicroOp) → slice_get ops i ≡ Some o → op_text (slice_get ops i) ≡ decimal o.g ++ 46 ∷ decimal o.n
op_is ops i o at = ap op_text at ∙ dotted (decimal o.g) (decimal o.n)

pub dot_lacks : (k : ℕ) → IsSmall k → Lacks 46 (decimal k)
dot_lacks k small = decimal_lacks 46 (decimal k) refl (k, (small, refl))

pub value_lacks : (ops : List MicroOp) (v : Instance) → IsValue ops v → Lacks 32 (value_text ops v)
value_lacks ops (CoreInstance k) h = number_lacks k h
value_lacks ops (OpInstance i) h =
    (let o = h.0 in
    let P : List ℕ → Type 0 = λ w. Lacks 32 w in
    subst P (sym (op_is ops i o h.1)) (lacks_append 32 (decimal o.g) (46 ∷ decimal o.n) (number_lacks o.g h.2) (number_lacks o.n h.3)))

one_value : (ops : List MicroOp) → AreMicroOps ops → (u v : Instance) → IsValue ops u → IsValue ops v → value_text ops u ≡ value_text ops v → u ≡ v
one_value ops kept (CoreInstance j) (CoreInstance k) hu hv e = ap CoreInstance (one_number j k hu hv e)
one_value ops kept (OpInstance i) (CoreInstance k) hu hv e =
    absurd (cut_has 46 (decimal k) (decimal hu.0.g) (decimal hu.0.n) (dot_lacks hu.0.g hu.2, sym e ∙ op_is ops i hu.0 hu.1) (dot_lacks k hv))
one_value ops kept (CoreInstance k) (OpInstance i) hu hv e =
    absurd (cut_has 46 (decimal k) (decimal hv.0.g) (decimal hv.0.n) (dot_lacks hv.0.g hv.2, e ∙ op_is ops i hv.0 hv.1) (dot_lacks k hu))
one_value ops kept (OpInstance i) (OpInstance j) hu hv e =
    let o = hu.0 in let p = hv.0 in
    let parts = one_cut 46 (decimal o.g) (decimal o.n) (decimal p.g) (decimal p.n) (dot_lacks o.g hu.2) (dot_lacks p.g hv.2)
    (sym (op_is ops i o hu.1) ∙ e ∙ op_is ops j p hv.1) in
    ap OpInstance (kept.once i j o p hu.1 hv.1 (one_number o.g p.g hu.2 hv.2 parts.0) (one_number o.n p.n hu.3 hv.3 parts.1))

-- the words of a step's line
rest_lack : (ops : List MicroOp) (ks : List ℕ) (vs : List (List ℕ)) → All IsSmall ks → All (Lacks 32) vs → All (Lacks 32) (map decimal ks ++ vs)
rest_lack ops [] vs hk hv = hv
rest_lack ops (k ∷ ks) vs hk hv =
    All-cons (Lacks 32) (decimal k) (map decimal ks ++ vs) (number_lacks k (All-head IsSmall k ks hk)) (rest_lack ops ks vs (All-tail IsSmall k ks hk) hv)

values_lack : (ops : List MicroOp) (s : LiftedStep) → HasValue ops s → All (Lacks 32) (value_words ops s)
values_lack ops (derive (InstWay v) k) h = All-cons (Lacks 32) (value_text ops v) [] (value_lacks ops v h) (All-nil (Lacks 32))
values_lack ops s h = All-nil (Lacks 32)

pub words_of_step : (ops : List MicroOp) (line : List ℕ) (s : LiftedStep) → IsStepLine ops line s → words line ≡ step_words ops s
words_of_step ops line s h =
    ap words h.is ∙ words_joined (keyword_text (keyword_of s)) (map decimal (numbers_of s) ++ value_words ops s) (keyword_lacks (keyword_of s))
    (rest_lack ops (numbers_of s) (value_words ops s) h.small (values_lack ops s h.value))

-- a step whose line has these words: without a value, or with one
pub record HasNumbers (k : Keyword) (ws : List (List ℕ)) (s : LiftedStep) : Type 0 where
  pub decodes : decoded k (numbers_of s) ≡ Some s
  pub words : ws ≡ map decimal (numbers_of s)

pub record HasInstance (ops : List MicroOp) (ws : List (List ℕ)) (s : LiftedStep) : Type 0 where
  pub number : ℕ
  pub value : Instance
  pub is : s ≡ derive (InstWay value) number
  pub small : IsSmall number
  pub has_value : IsValue ops value
  pub words : ws ≡ decimal number ∷ value_text ops value ∷ []

same_words : (ops : List MicroOp) (line : List ℕ) (k : Keyword) (ws : List (List ℕ)) (s : LiftedStep) → IsStepLine ops line s
    → words line ≡ keyword_text k ∷ ws → (keyword_of s ≡ k) × (ws ≡ map decimal (numbers_of s) ++ value_words ops s)
same_words ops line k ws s h e =
    let both : keyword_text k ∷ ws ≡ step_words ops s = sym e ∙ words_of_step ops line s h in
    let first : keyword_text (keyword_of s) ≡ keyword_text k = cc in
    let rest : ws ≡ map decimal (numbers_of s) ++ value_words ops s = cc in
    (one_keyword (keyword_of s) k first, rest)

pub numbers_line : (ops : List MicroOp) (line : List ℕ) (k : Keyword) (ws : List (List ℕ)) (s : LiftedStep) → k ≢ Inst → IsStepLine ops line s
    → words line ≡ keyword_text k ∷ ws → HasNumbers k ws s
numbers_line ops line k ws s other h e = go (same_words ops line k ws s h e) (kind_of ops s)
  where
    go : (keyword_of s ≡ k) × (ws ≡ map decimal (numbers_of s) ++ value_words ops s) → IsPlain ops s ⊎ IsInstance s → HasNumbers k ws s
    go same (inl p) = record {
      decodes = ap (λ (j : Keyword). decoded j (numbers_of s)) (sym same.0) ∙ p.decodes;
      words = same.1 ∙ ap (λ (vs : List (List ℕ)). map decimal (numbers_of s) ++ vs) p.none ∙ append-nil (map decimal (numbers_of s));
    }
    go same (inr i) = absurd (other (sym same.0 ∙ ap keyword_of i.is))

pub instance_line : (ops : List MicroOp) (line : List ℕ) (ws : List (List ℕ)) (s : LiftedStep) → IsStepLine ops line s
    → words line ≡ keyword_text Inst ∷ ws → HasInstance ops ws s
instance_line ops line ws s h e = go (same_words ops line Inst ws s h e) (kind_of ops s)
  where
    none : decoded Inst (numbers_of s) ≡ Some s → ⊥
    none d = cc

    go : (keyword_of s ≡ Inst) × (ws ≡ map decimal (numbers_of s) ++ value_words ops s) → IsPlain ops s ⊎ IsInstance s → HasInstance ops ws s
    go same (inl p) = absurd (none (ap (λ (j : Keyword). decoded j (numbers_of s)) (sym same.0) ∙ p.decodes))
    go same (inr i) =
        let A : LiftedStep → Type 0 = λ t. All IsSmall (numbers_of t) in
        let V : LiftedStep → Type 0 = λ t. HasValue ops t in
        record {
          number = i.number;
          value = i.value;
          is = i.is;
          small = All-head IsSmall i.number [] (subst A i.is h.small);
          has_value = subst V i.is h.value;
          words = same.1 ∙ ap (λ (t : LiftedStep). map decimal (numbers_of t) ++ value_words ops t) i.is;
        }

-- a line whose words are so is that of a step
pub plain_line : (ops : List MicroOp) (line : List ℕ) (k : Keyword) (ks : List ℕ) (s : LiftedStep) → words line ≡ keyword_text k ∷ map decimal ks
    → All IsSmall ks → decoded k ks ≡ Some s → IsStepLine ops line s
plain_line ops line k ks s e small d =
    let is = decoded_is ops k ks s d in
    let A : List ℕ → Type 0 = λ ns. All IsSmall ns in
    record {
      small = subst A (sym is.numbers) small;
      value = is.value;
      is = line_of_words line (step_words ops s) (e ∙ sym (
          ap (λ (j : Keyword). keyword_text j ∷ (map decimal (numbers_of s) ++ value_words ops s)) is.keyword
          ∙ ap (λ (vs : List (List ℕ)). keyword_text k ∷ (map decimal (numbers_of s) ++ vs)) is.none
          ∙ ap (λ (xs : List (List ℕ)). keyword_text k ∷ xs) (append-nil (map decimal (numbers_of s)))
          ∙ ap (λ (ns : List ℕ). keyword_text k ∷ map decimal ns) is.numbers));
    }

pub value_line : (ops : List MicroOp) (line : List ℕ) (k : ℕ) (v : Instance) → words line ≡ keyword_text Inst ∷ decimal k ∷ value_text ops v ∷ []
    → IsSmall k → IsValue ops v → IsStepLine ops line (derive (InstWay v) k)
value_line ops line k v e small has = record {
  small = All-cons IsSmall k [] small (All-nil IsSmall);
  value = has;
  is = line_of_words line (step_words ops (derive (InstWay v) k)) e;
}

two_words : (ops : List MicroOp) (s : LiftedStep) → (w : List ℕ) × (ws : List (List ℕ)) × (map decimal (numbers_of s) ++ value_words ops s ≡ w ∷ ws)
two_words ops (derive LeftWay k) = (decimal k, [], refl)
two_words ops (derive RightWay k) = (decimal k, [], refl)
two_words ops (derive NotWay k) = (decimal k, [], refl)
two_words ops (derive BindWay k) = (decimal k, [], refl)
two_words ops (derive (InstWay v) k) = (decimal k, value_text ops v ∷ [], refl)
two_words ops (derive (MemberWay j) k) = (decimal k, decimal j ∷ [], refl)
two_words ops (split k) = (decimal k, [], refl)
two_words ops (close (falsity k)) = (decimal k, [], refl)
two_words ops (close (cycle k ks)) = (decimal k, map decimal ks ++ [], refl)
two_words ops (close (path k ks d)) = (decimal k, map decimal (ks ++ d ∷ []) ++ [], refl)
two_words ops (close (absent d k)) = (decimal d, decimal k ∷ [], refl)

-- a line of one word is that of no step
pub no_word_alone : (ops : List MicroOp) (line word : List ℕ) (s : LiftedStep) → words line ≡ word ∷ [] → IsStepLine ops line s → ⊥
no_word_alone ops line word s e h =
    let both : word ∷ [] ≡ step_words ops s = sym e ∙ words_of_step ops line s h in
    let t = two_words ops s in
    let is = t.2 in
    let rest : [] ≡ map decimal (numbers_of s) ++ value_words ops s = cc in
    let no : [] ≡ t.0 ∷ t.1 = rest ∙ is in
    cc

pub no_other_word : (ops : List MicroOp) (line word : List ℕ) (ws : List (List ℕ)) (s : LiftedStep) → words line ≡ word ∷ ws
    → ((k : Keyword) → word ≡ keyword_text k → ⊥) → IsStepLine ops line s → ⊥
no_other_word ops line word ws s e none h =
    let both : word ∷ ws ≡ step_words ops s = sym e ∙ words_of_step ops line s h in
    none (keyword_of s) (cc)

pub no_end_step : (ops : List MicroOp) (s : LiftedStep) → IsStepLine ops (codes "end") s → ⊥
no_end_step ops s h = no_word_alone ops (codes "end") (codes "end") s refl h

-- no two steps have one line
pub one_step : (ops : List MicroOp) → AreMicroOps ops → (line : List ℕ) (s t : LiftedStep) → IsStepLine ops line s → IsStepLine ops line t → s ≡ t
one_step ops kept line s t hs ht = go (kind_of ops s)
  where
    words_is : words line ≡ keyword_text (keyword_of s) ∷ (map decimal (numbers_of s) ++ value_words ops s)
    words_is = words_of_step ops line s hs

    go : IsPlain ops s ⊎ IsInstance s → s ≡ t
    go (inl p) =
        let n = numbers_line ops line (keyword_of s) (map decimal (numbers_of s) ++ value_words ops s) t (plain_other s p) ht words_is in
        let row : map decimal (numbers_of s) ≡ map decimal (numbers_of t) =
        sym (ap (λ (vs : List (List ℕ)). map decimal (numbers_of s) ++ vs) p.none ∙ append-nil (map decimal (numbers_of s))) ∙ n.words in
        let same : Some s ≡ Some t = sym p.decodes ∙ ap (decoded (keyword_of s)) (one_row (numbers_of s) (numbers_of t) hs.small ht.small row) ∙ n.decodes in
        cc
      where
        plain_other : (s : LiftedStep) → IsPlain ops s → keyword_of s ≢ Inst
        plain_other s p e = (let d : decoded Inst (numbers_of s) ≡ Some s = ap (λ (j : Keyword). decoded j (numbers_of s)) (sym e) ∙ p.decodes in cc)
    go (inr i) =
        let W : LiftedStep → Type 0 = λ u. words line ≡ step_words ops u in
        let H : LiftedStep → Type 0 = λ u. IsStepLine ops line u in
        let at = subst W i.is words_is in
        let mine = instance_line ops line (decimal i.number ∷ value_text ops i.value ∷ []) s hs at in
        let other = instance_line ops line (decimal i.number ∷ value_text ops i.value ∷ []) t ht at in
        let numbers : decimal mine.number ≡ decimal other.number = cc (mine.words, other.words) in
        let values : value_text ops mine.value ≡ value_text ops other.value = cc (mine.words, other.words) in
        mine.is ∙ ap (λ (k : ℕ). derive (InstWay mine.value) k) (one_number mine.number other.number mine.small other.small numbers)
        ∙ ap (λ (v : Instance). derive (InstWay v) other.number) (one_value ops kept mine.value other.value mine.has_value other.has_value values)
        ∙ sym other.is
