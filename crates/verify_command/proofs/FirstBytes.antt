-- Where a text is refused, and what the first bytes of a file say of all of it.
use Rattle.std.proofs.{Common.{◌≡◌, ◌⊎◌, inl, inr, ℕ, ◌≤◌, ◌<◌, ◌+◌, List, [], ◌++◌, length, sym, ◌∙◌, ap, subst, arith}, lemmas.Bool.{cases_order}}
use Rattle.std.proofs.lemmas.List.{append-nil}
use Rattle.pc_common.specs.declared.limits.TheConstants.{MAX_CERTIFICATE}
use Rattle.pc_common.specs.declared.status.Status.TheVariants.{Observable as is_observable, Unobservable as is_unobservable, CertRefused as is_cert_refused}
use Rattle.line_judge.specs.Texts.{IsRefusedAt}

pub refused_seen : is_cert_refused ≡ is_observable → ⊥
refused_seen e = cc

pub refused_unseen : is_cert_refused ≡ is_unobservable → ⊥
refused_unseen e = cc

-- a text is refused at one line
pub one_line : (begins whole : List (List ℕ) → Type 0) (text : List ℕ) (n k : ℕ) → IsRefusedAt begins whole text n → IsRefusedAt begins whole text k → n ≡ k
one_line begins whole text n k x y = go (cases_order n k)
  where
    go : (n ≡ k) ⊎ ((n < k) ⊎ (k < n)) → n ≡ k
    go (inl same) = same
    go (inr (inl less)) = absurd (x.here (y.before n less))
    go (inr (inr more)) = absurd (y.here (x.before k more))

pub both_lengths : (text : List ℕ) → length text ≤ MAX_CERTIFICATE → MAX_CERTIFICATE < length text → ⊥
both_lengths text short long = omega (arith, short, long)

-- what is found of the first bytes is found of the file: they are all of it, or past the limit, where no more counts
pub file_is : (P : List ℕ → Type 0) {file after : List ℕ} (bytes : List ℕ) → file ≡ bytes ++ after → (after ≡ []) ⊎ (length bytes ≡ MAX_CERTIFICATE + 1)
    → P bytes → (MAX_CERTIFICATE < length bytes → P (bytes ++ after)) → P file
file_is P bytes first (inl none) here past = subst P (sym (first ∙ ap (λ (xs : List ℕ). bytes ++ xs) none ∙ append-nil bytes)) here
file_is P bytes first (inr long) here past = subst P (sym first) (past (omega (arith, long)))
