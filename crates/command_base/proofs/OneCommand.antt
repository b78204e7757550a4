-- Words are one command at most: the first word tells which, and the others are its arguments.
use Rattle.std.proofs.Common.{◌≡◌, ◌≤◌, ◌<◌, ℕ, zero, suc, ◌⊎◌, inl, inr, Bool, true, false, cond, List, [], ◌∷◌, refl, sym, ◌∙◌, ap, arith, nat_eq}
use Rattle.std.{proofs.lemmas.{Bool.{cases_order}, Fmt.{decimal_injective}}, specs.{Prelude.{codes}, Fmt.{decimal}}}
use Rattle.std.specs.Cmp.Lexicographic.{pointwise, same_text, bytes_decides}
use Rattle.pc_ground.specs.declared.version.Version.TheVariants.{One, Two}
use Rattle.command_base.specs.Inputs.{Inputs}
use Rattle.command_base.specs.Command.{Command, check, verify, find_core, check_listing, verify_listing, sweep_rows, verify_lifted, ask_query, lift_tree, gen, words_of, IsWithin, IsCommand, IsNoCommand}

name_at : ℕ → List (List ℕ) → List ℕ
name_at k [] = []
name_at zero (x ∷ xs) = x
name_at (suc k) (x ∷ xs) = name_at k xs

-- each command that reads two files names them in its second and third word
inputs_at : List (List ℕ) → Inputs
inputs_at words = record { model = name_at 1 words; test = name_at 2 words }

-- the greatest number up to this one that the text is in decimal
number_in : ℕ → List ℕ → ℕ
number_in zero text = zero
number_in (suc k) text = cond (pointwise nat_eq text (decimal (suc k))) (suc k) (number_in k text)

number_found : (k n : ℕ) → k ≤ 16 → 1 ≤ n → n ≤ k → number_in k (decimal n) ≡ n
unfolding number_in
number_found zero n few some small = absurd (omega arith)
number_found (suc k) n few some small =
    go (pointwise nat_eq (decimal n) (decimal (suc k))) refl (λ below. number_found k n (omega arith) some below)
  where
    below : ((n ≡ suc k) → ⊥) → (n ≡ suc k) ⊎ ((n < suc k) ⊎ (suc k < n)) → n ≤ k
    below other (inl same) = absurd (other same)
    below other (inr (inl less)) = omega (arith, less)
    below other (inr (inr more)) = absurd (omega (arith, more, small))

    differ : pointwise nat_eq (decimal n) (decimal (suc k)) ≡ false → (n ≡ suc k) → ⊥
    differ e same = (let yes = (bytes_decides (decimal n) (decimal (suc k))).1 (ap decimal same) in cc)

    go : (b : Bool) → pointwise nat_eq (decimal n) (decimal (suc k)) ≡ b → (n ≤ k → number_in k (decimal n) ≡ n)
        → cond b (suc k) (number_in k (decimal n)) ≡ n
    go true e rest = sym (decimal_injective n (suc k) (omega (arith, few, small)) (omega (arith, few))
        (same_text (decimal n) (decimal (suc k)) (sym e)))
    go false e rest = rest (below (differ e) (cases_order n (suc k)))

-- the command beside this word, or this one where there is none
by_word : List ℕ → List (List ℕ × Command) → Command → Command
by_word word [] last = last
by_word word (p ∷ ps) last = cond (pointwise nat_eq word p.0) p.1 (by_word word ps last)

-- the command that the first word tells
command_by : List (List ℕ) → Command
command_by words =
    by_word (name_at 0 words) (
    (codes "check", check One (inputs_at words))
    ∷ (codes "check2", check Two (inputs_at words))
    ∷ (codes "verify", verify (inputs_at words) (name_at 3 words))
    ∷ (codes "core", find_core (inputs_at words))
    ∷ (codes "check86", check_listing (inputs_at words))
    ∷ (codes "verify86", verify_listing (inputs_at words) (name_at 3 words))
    ∷ (codes "sweep", sweep_rows (inputs_at words))
    ∷ (codes "verify-lifted", verify_lifted (inputs_at words) (name_at 3 words))
    ∷ (codes "ask", ask_query (inputs_at words) (name_at 3 words))
    ∷ (codes "lift", lift_tree (inputs_at words) (name_at 3 words))
    ∷ []) (gen (number_in 16 (name_at 1 words)))

spelt : (c : Command) → IsWithin c → command_by (words_of c) ≡ c
unfolding name_at inputs_at by_word command_by
spelt (check One i) within = refl
spelt (check Two i) within = refl
spelt (verify i certificate) within = refl
spelt (find_core i) within = refl
spelt (check_listing i) within = refl
spelt (verify_listing i certificate) within = refl
spelt (sweep_rows i) within = refl
spelt (verify_lifted i certificate) within = refl
spelt (ask_query i query) within = refl
spelt (lift_tree i certificate) within = refl
spelt (gen n) within = ap gen (let some = within.0 in number_found 16 n (omega arith) (omega arith) within.1)

pub one_command : (words : List (List ℕ)) (c d : Command) → IsCommand words c → IsCommand words d → c ≡ d
one_command words c d x y = sym (spelt c x.1) ∙ ap command_by (sym x.0 ∙ y.0) ∙ spelt d y.1

module _ (words : List (List ℕ)) (no_check : (i : Inputs) → words ≡ codes "check" ∷ i.model ∷ i.test ∷ [] → ⊥)
    (no_check2 : (i : Inputs) → words ≡ codes "check2" ∷ i.model ∷ i.test ∷ [] → ⊥)
    (no_verify : (i : Inputs) (third : List ℕ) → words ≡ codes "verify" ∷ i.model ∷ i.test ∷ third ∷ [] → ⊥)
    (no_core : (i : Inputs) → words ≡ codes "core" ∷ i.model ∷ i.test ∷ [] → ⊥)
    (no_check86 : (i : Inputs) → words ≡ codes "check86" ∷ i.model ∷ i.test ∷ [] → ⊥)
    (no_verify86 : (i : Inputs) (third : List ℕ) → words ≡ codes "verify86" ∷ i.model ∷ i.test ∷ third ∷ [] → ⊥)
    (no_sweep : (i : Inputs) → words ≡ codes "sweep" ∷ i.model ∷ i.test ∷ [] → ⊥)
    (no_verify_lifted : (i : Inputs) (third : List ℕ) → words ≡ codes "verify-lifted" ∷ i.model ∷ i.test ∷ third ∷ [] → ⊥)
    (no_ask : (i : Inputs) (third : List ℕ) → words ≡ codes "ask" ∷ i.model ∷ i.test ∷ third ∷ [] → ⊥)
    (no_lift : (i : Inputs) (third : List ℕ) → words ≡ codes "lift" ∷ i.model ∷ i.test ∷ third ∷ [] → ⊥)
    (no_gen : (n : ℕ) → IsCommand words (gen n) → ⊥) where
  -- words of no form
  pub no_form : IsNoCommand words
  no_form (check One i) is = no_check i is.0
  no_form (check Two i) is = no_check2 i is.0
  no_form (verify i certificate) is = no_verify i certificate is.0
  no_form (find_core i) is = no_core i is.0
  no_form (check_listing i) is = no_check86 i is.0
  no_form (verify_listing i certificate) is = no_verify86 i certificate is.0
  no_form (sweep_rows i) is = no_sweep i is.0
  no_form (verify_lifted i certificate) is = no_verify_lifted i certificate is.0
  no_form (ask_query i query) is = no_ask i query is.0
  no_form (lift_tree i certificate) is = no_lift i certificate is.0
  no_form (gen n) is = no_gen n is
