-- Two files of a form say one model and one case at most, have one first fault at most, and one of both.
use Rattle.std.proofs.Common.{◌≡◌, ◌⊎◌, inl, inr, ℕ, List, Option, Some, None, length, sym, ◌∙◌, ap, refl, subst, arith}
use Rattle.pc_common.specs.{Case.{Case}, declared.fault.InputFault.{InputFault}}
use Rattle.pc_syntax.specs.Written.{WrittenModel}
use Rattle.pc_front.{specs.Front.{SaysModel}, proofs.OneModel.{one_whole_model}}
use Rattle.command_base.specs.{Inputs.{Inputs, Contents, IsRead, IsTooLarge, IsFirstInputFault, large_model, large_test, in_bytes, Says}, SecondFiles.{IsForm}}

value_of : List ℕ → Option (List ℕ) → List ℕ
value_of d None = d
value_of d (Some x) = x

-- a name holds one thing
pub one_held : (holds : Contents) (name a b : List ℕ) → holds name ≡ Some a → holds name ≡ Some b → a ≡ b
unfolding value_of
one_held holds name a b x y = ap (value_of a) (sym x ∙ y)

pub never_both : (holds : Contents) (name bytes : List ℕ) → IsRead holds name bytes → IsTooLarge holds name → ⊥
never_both holds name bytes r l =
    let same : length bytes ≡ length l.bytes = ap length (one_held holds name bytes l.bytes r.held l.held) in
    omega (arith, same, r.within, l.past)

-- what is said of the second bytes is said of the first, where both are those of one name
moved : (P : List ℕ → Type 0) (holds : Contents) (name a b : List ℕ) → holds name ≡ Some a → holds name ≡ Some b → P b → P a
moved P holds name a b x y is = subst P (one_held holds name b a y x) is

module _ {case_of : List ℕ → Case → Type 0} {first_fault : List ℕ → List ℕ → InputFault → Type 0} (form : IsForm case_of first_fault)
    (holds : Contents) (i : Inputs) where
  pub one_said : (m n : WrittenModel) (c d : Case) → Says case_of holds i m c → Says case_of holds i n d → (m ≡ n) × (c ≡ d)
  one_said m n c d x y = (
    one_whole_model x.model_bytes m n x.says_model.model
        (moved (λ b. SaysModel b n) holds i.model x.model_bytes y.model_bytes x.model_read.held y.model_read.held y.says_model).model,
    form.one_case x.test_bytes c d x.says_case
        (moved (λ b. case_of b d) holds i.test x.test_bytes y.test_bytes x.test_read.held y.test_read.held y.says_case),
  )

  pub no_fault_said : (m : WrittenModel) (c : Case) (f : InputFault) → Says case_of holds i m c → IsFirstInputFault first_fault holds i f → ⊥
  no_fault_said m c _ says (large_model l) = never_both holds i.model says.model_bytes says.model_read l
  no_fault_said m c _ says (large_test r l) = never_both holds i.test says.test_bytes says.test_read l
  no_fault_said m c f says (in_bytes {mb = mb} {tb = tb} rm rt is) =
      form.no_fault mb tb f is m c
      (moved (λ b. SaysModel b m) holds i.model mb says.model_bytes rm.held says.model_read.held says.says_model)
      (moved (λ b. case_of b c) holds i.test tb says.test_bytes rt.held says.test_read.held says.says_case)

  pub one_first_fault : (f g : InputFault) → IsFirstInputFault first_fault holds i f → IsFirstInputFault first_fault holds i g → f ≡ g
  one_first_fault _ _ (large_model l) (large_model l2) = refl
  one_first_fault _ _ (large_model l) (large_test {mb = mb} rm l2) = absurd (never_both holds i.model mb rm l)
  one_first_fault _ _ (large_model l) (in_bytes {mb = mb} rm rt is) = absurd (never_both holds i.model mb rm l)
  one_first_fault _ _ (large_test {mb = mb} rm l) (large_model l2) = absurd (never_both holds i.model mb rm l2)
  one_first_fault _ _ (large_test rm l) (large_test rm2 l2) = refl
  one_first_fault _ _ (large_test rm l) (in_bytes {tb = tb} rm2 rt is) = absurd (never_both holds i.test tb rt l)
  one_first_fault _ _ (in_bytes {mb = mb} rm rt is) (large_model l) = absurd (never_both holds i.model mb rm l)
  one_first_fault _ _ (in_bytes {tb = tb} rm rt is) (large_test rm2 l) = absurd (never_both holds i.test tb rt l)
  one_first_fault f g (in_bytes {mb = mb} {tb = tb} rm rt x) (in_bytes {mb = mb2} {tb = tb2} rm2 rt2 y) =
      form.one_fault mb tb f g x
      (moved (λ b. first_fault mb b g) holds i.test tb tb2 rt.held rt2.held (moved (λ b. first_fault b tb2 g) holds i.model mb mb2 rm.held rm2.held y))

  pub case_or_first_fault : (mb tb : List ℕ) → IsRead holds i.model mb → IsRead holds i.test tb
      → ((m : WrittenModel) × (c : Case) × Says case_of holds i m c) ⊎ ((f : InputFault) × IsFirstInputFault first_fault holds i f)
  case_or_first_fault mb tb rm rt = go (form.some mb tb)
    where
      go : ((m : WrittenModel) × (c : Case) × SaysModel mb m × case_of tb c) ⊎ ((f : InputFault) × first_fault mb tb f)
          → ((m : WrittenModel) × (c : Case) × Says case_of holds i m c) ⊎ ((f : InputFault) × IsFirstInputFault first_fault holds i f)
      go (inl (m, c, says, is)) =
          inl (m, c, record { model_bytes = mb; test_bytes = tb; model_read = rm; test_read = rt; says_model = says; says_case = is })
      go (inr (f, is)) = inr (f, in_bytes rm rt is)
