-- A step without a value is that of its keyword and its numbers.
use Rattle.std.{proofs.Common.{◌≡◌, ◌⊎◌, inl, inr, ℕ, List, [], ◌∷◌, ◌++◌, Option, Some, None, refl, sym, ◌∙◌, ap, subst}, specs.Option.{option_map}}
use Rattle.pc_common.specs.Case.{MicroOp}
use Rattle.lifted_facts.specs.declared.way.Instance.{Instance}
use Rattle.lifted_facts.specs.declared.way.Way.TheVariants.{Left as LeftWay, Right as RightWay, Not as NotWay, Bind as BindWay, Inst as InstWay, Member as MemberWay}
use Rattle.lifted_facts.{specs.Lifted.{LiftedStep, derive, split, close, falsity, cycle, path, absent}, proofs.PartTruth.{mapped}}
use Rattle.lifted_check.specs.StepLines.{keyword_of, numbers_of, value_words, HasValue}
use Rattle.lifted_check.specs.{Decoding.{only_number, two_numbers, onto_front, front_and_last, decoded}, declared.keyword.Keyword.{Keyword}}
use Rattle.lifted_check.specs.declared.keyword.Keyword.TheVariants.{Left, Right, Not, Bind, Member, Split, False, Cycle, Path, Absent, Inst}

pub front_last : (ks : List ℕ) (d : ℕ) → front_and_last (ks ++ d ∷ []) ≡ Some (ks, d)
front_last [] d = refl
front_last (k ∷ []) d = refl
front_last (j ∷ k ∷ ks) d = ap (onto_front j) (front_last (k ∷ ks) d)

-- the step has no value, and its keyword and its numbers say which it is
pub record IsPlain (ops : List MicroOp) (s : LiftedStep) : Type 0 where
  pub decodes : decoded (keyword_of s) (numbers_of s) ≡ Some s
  pub none : value_words ops s ≡ []

-- the step is an instantiation
pub record IsInstance (s : LiftedStep) : Type 0 where
  pub number : ℕ
  pub value : Instance
  pub is : s ≡ derive (InstWay value) number

pub kind_of : (ops : List MicroOp) (s : LiftedStep) → IsPlain ops s ⊎ IsInstance s
kind_of ops (derive LeftWay k) = inl (record { decodes = refl; none = refl })
kind_of ops (derive RightWay k) = inl (record { decodes = refl; none = refl })
kind_of ops (derive NotWay k) = inl (record { decodes = refl; none = refl })
kind_of ops (derive BindWay k) = inl (record { decodes = refl; none = refl })
kind_of ops (derive (InstWay v) k) = inr (record { number = k; value = v; is = refl })
kind_of ops (derive (MemberWay j) k) = inl (record { decodes = refl; none = refl })
kind_of ops (split k) = inl (record { decodes = refl; none = refl })
kind_of ops (close (falsity k)) = inl (record { decodes = refl; none = refl })
kind_of ops (close (cycle k ks)) = inl (record { decodes = refl; none = refl })
kind_of ops (close (path k ks d)) = inl (record { decodes = ap (option_map (λ (r : List ℕ × ℕ). close (path k r.0 r.1))) (front_last ks d); none = refl })
kind_of ops (close (absent d k)) = inl (record { decodes = refl; none = refl })

-- the step has this keyword, these numbers and no value
pub record IsDecoded (ops : List MicroOp) (k : Keyword) (ns : List ℕ) (s : LiftedStep) : Type 0 where
  pub keyword : keyword_of s ≡ k
  pub numbers : numbers_of s ≡ ns
  pub none : value_words ops s ≡ []
  pub value : HasValue ops s

only_is : (ns : List ℕ) (k : ℕ) → only_number ns ≡ Some k → k ∷ [] ≡ ns
only_is [] k e = cc
only_is (n ∷ []) k e = (let same : n ≡ k = cc in ap (λ (x : ℕ). x ∷ []) (sym same))
only_is (m ∷ n ∷ ns) k e = cc

two_is : (ns : List ℕ) (r : ℕ × ℕ) → two_numbers ns ≡ Some r → r.0 ∷ r.1 ∷ [] ≡ ns
two_is [] r e = cc
two_is (n ∷ []) r e = cc
two_is (m ∷ n ∷ []) r e =
    (let pair : ℕ × ℕ = (m, n) in
    let same : pair ≡ r = cc in
    ap (λ (x : ℕ × ℕ). x.0 ∷ x.1 ∷ []) (sym same))
two_is (l ∷ m ∷ n ∷ ns) r e = cc

front_is : (ns : List ℕ) (r : List ℕ × ℕ) → front_and_last ns ≡ Some r → r.0 ++ r.1 ∷ [] ≡ ns
front_is [] r e = cc
front_is (n ∷ []) r e =
    (let pair : List ℕ × ℕ = ([], n) in
    let same : pair ≡ r = cc in
    ap (λ (x : List ℕ × ℕ). x.0 ++ x.1 ∷ []) (sym same))
front_is (m ∷ n ∷ ns) r e = go (front_and_last (n ∷ ns)) refl (λ q is. front_is (n ∷ ns) q is) e
  where
    go : (o : Option (List ℕ × ℕ)) → front_and_last (n ∷ ns) ≡ o → ((q : List ℕ × ℕ) → front_and_last (n ∷ ns) ≡ Some q → q.0 ++ q.1 ∷ [] ≡ n ∷ ns)
        → onto_front m o ≡ Some r → r.0 ++ r.1 ∷ [] ≡ m ∷ n ∷ ns
    go None is later f = cc
    go (Some q) is later f =
        (let pair : List ℕ × ℕ = (m ∷ q.0, q.1) in
        let same : pair ≡ r = cc in
        ap (λ (x : List ℕ × ℕ). x.0 ++ x.1 ∷ []) (sym same) ∙ ap (λ (xs : List ℕ). m ∷ xs) (later q is))

pub decoded_is : (ops : List MicroOp) (k : Keyword) (ns : List ℕ) (s : LiftedStep) → decoded k ns ≡ Some s → IsDecoded ops k ns s
decoded_is ops Left ns s e =
    (let m = mapped (λ (n : ℕ). derive LeftWay n) (only_number ns) s e in
    subst (IsDecoded ops Left ns) m.2 (record { keyword = refl; numbers = only_is ns m.0 m.1; none = refl; value = tt }))
decoded_is ops Right ns s e =
    (let m = mapped (λ (n : ℕ). derive RightWay n) (only_number ns) s e in
    subst (IsDecoded ops Right ns) m.2 (record { keyword = refl; numbers = only_is ns m.0 m.1; none = refl; value = tt }))
decoded_is ops Not ns s e =
    (let m = mapped (λ (n : ℕ). derive NotWay n) (only_number ns) s e in
    subst (IsDecoded ops Not ns) m.2 (record { keyword = refl; numbers = only_is ns m.0 m.1; none = refl; value = tt }))
decoded_is ops Bind ns s e =
    (let m = mapped (λ (n : ℕ). derive BindWay n) (only_number ns) s e in
    subst (IsDecoded ops Bind ns) m.2 (record { keyword = refl; numbers = only_is ns m.0 m.1; none = refl; value = tt }))
decoded_is ops Inst ns s e = cc
decoded_is ops Member ns s e =
    (let m = mapped (λ (r : ℕ × ℕ). derive (MemberWay r.1) r.0) (two_numbers ns) s e in
    subst (IsDecoded ops Member ns) m.2 (record { keyword = refl; numbers = two_is ns m.0 m.1; none = refl; value = tt }))
decoded_is ops Split ns s e =
    (let m = mapped (λ (n : ℕ). split n) (only_number ns) s e in
    subst (IsDecoded ops Split ns) m.2 (record { keyword = refl; numbers = only_is ns m.0 m.1; none = refl; value = tt }))
decoded_is ops False ns s e =
    (let m = mapped (λ (n : ℕ). close (falsity n)) (only_number ns) s e in
    subst (IsDecoded ops False ns) m.2 (record { keyword = refl; numbers = only_is ns m.0 m.1; none = refl; value = tt }))
decoded_is ops Cycle [] s e = cc
decoded_is ops Cycle (n ∷ ns) s e =
    (let same : close (cycle n ns) ≡ s = cc in
    subst (IsDecoded ops Cycle (n ∷ ns)) same (record { keyword = refl; numbers = refl; none = refl; value = tt }))
decoded_is ops Path [] s e = cc
decoded_is ops Path (n ∷ ns) s e =
    (let m = mapped (λ (r : List ℕ × ℕ). close (path n r.0 r.1)) (front_and_last ns) s e in
    subst (IsDecoded ops Path (n ∷ ns)) m.2
    (record { keyword = refl; numbers = ap (λ (xs : List ℕ). n ∷ xs) (front_is ns m.0 m.1); none = refl; value = tt }))
decoded_is ops Absent ns s e =
    (let m = mapped (λ (r : ℕ × ℕ). close (absent r.0 r.1)) (two_numbers ns) s e in
    subst (IsDecoded ops Absent ns) m.2 (record { keyword = refl; numbers = two_is ns m.0 m.1; none = refl; value = tt }))
