-- Bytes that stand in no node's text.
use Rattle.std.proofs.{Common.{◌≡◌, ℕ, Bool, true, false, ◌==◌, ◌||◌, List, [], ◌∷◌, ◌++◌, refl, sym, ◌∙◌, ap, subst}, lemmas.Bool.{ne_eqb}}
use Rattle.std.specs.{Prelude.{codes}, List.{list_any, list_all}, Char.{is_ascii_alphabetic, is_ascii_digit}}
use Rattle.pc_common.proofs.Bools.{and_first, and_second, not_both}
use Rattle.uspec_lexer.specs.Bytes.{is_name_byte, is_name}
use Rattle.pc_ground.{specs.{NodeForm.{IsNodeForm}, NodeWords.{Lacks}}, proofs.Cuts.{decimal_lacks}}

pub lacks_append : (m : ℕ) (xs ys : List ℕ) → Lacks m xs → Lacks m ys → Lacks m (xs ++ ys)
lacks_append m [] ys h k = k
lacks_append m (x ∷ xs) ys h k = rest (x == m) h (λ e. lacks_append m xs ys e k)
  where
    rest : (b : Bool) → (b || list_any (λ c. c == m) xs) ≡ false → (Lacks m xs → Lacks m (xs ++ ys)) → (b || list_any (λ c. c == m) (xs ++ ys)) ≡ false
    rest true e more = cc
    rest false e more = more e

letter_is_name_byte : (c : ℕ) → is_ascii_alphabetic c ≡ true → is_name_byte c ≡ true
letter_is_name_byte c h = rw h refl

pub record IsOutside (m : ℕ) : Type 0 where
  pub digit : is_ascii_digit m ≡ false
  pub name : is_name_byte m ≡ false
  pub dot : Lacks m (codes ".")
  pub at : Lacks m (codes "@")
  pub colon : Lacks m (codes ":")

pub line_feed : IsOutside 10
line_feed = record { digit = refl; name = refl; dot = refl; at = refl; colon = refl }

pub a_space : IsOutside 32
a_space = record { digit = refl; name = refl; dot = refl; at = refl; colon = refl }

module _ (m : ℕ) (out : IsOutside m) where
  other_byte : (c : ℕ) → is_name_byte c ≡ true → (c == m) ≡ false
  other_byte c named = ne_eqb c m (λ same. not_both (is_name_byte c) named (ap is_name_byte same ∙ out.name))

  bytes_lack : (cs : List ℕ) → list_all is_name_byte cs ≡ true → Lacks m cs
  bytes_lack [] h = refl
  bytes_lack (c ∷ cs) h =
      rw (other_byte c (and_first (is_name_byte c) (list_all is_name_byte cs) h)) (bytes_lack cs (and_second (is_name_byte c) (list_all is_name_byte cs) h))

  name_lacks : (cs : List ℕ) → is_name cs ≡ true → Lacks m cs
  unfolding is_name
  name_lacks [] h = refl
  name_lacks (c ∷ cs) h =
      rw (other_byte c (letter_is_name_byte c (and_first (is_ascii_alphabetic c) (list_all is_name_byte cs) h)))
      (bytes_lack cs (and_second (is_ascii_alphabetic c) (list_all is_name_byte cs) h))

  pub form_lacks : (word : List ℕ) → IsNodeForm word → Lacks m word
  form_lacks word f =
      let one = f.g ++ codes "." in
      let two = one ++ f.n in
      let three = two ++ codes "@" in
      let four = three ++ f.core in
      let five = four ++ codes ":" in
      let first : Lacks m one = lacks_append m f.g (codes ".") (decimal_lacks m f.g out.digit f.g_number) out.dot in
      let second_part : Lacks m two = lacks_append m one f.n first (decimal_lacks m f.n out.digit f.n_number) in
      let third : Lacks m three = lacks_append m two (codes "@") second_part out.at in
      let fourth : Lacks m four = lacks_append m three f.core third (decimal_lacks m f.core out.digit f.core_number) in
      let fifth : Lacks m five = lacks_append m four (codes ":") fourth out.colon in
      let P : List ℕ → Type 0 = λ w. Lacks m w in
      subst P (sym f.is) (lacks_append m five f.stage fifth (name_lacks f.stage f.stage_name))
