-- Bits of words, and where they stand in a table.
use Rattle.std.proofs.Common.{◌≡◌, ◌≢◌, ℕ, ◌+◌, ◌*◌, ◌/◌, ◌%◌, ◌^◌, ◌<◌, ◌≤◌, ◌⊎◌, inl, inr, true, false, ◌&&◌, ◌||◌, ◌==◌, if◌then◌else◌, List, length, take, drop, get_or, set, replicate, bit_or, refl, sym, ◌∙◌, ap, arith, eq-eqb, ne_eqb, lit<, w64}
use Rattle.std.proofs.lemmas.Bool.{cases_lt, cases_eq, cases_order}
use Rattle.std.proofs.lemmas.List.{get_or-set_same, get_or-set_other, get_or-take, get_or-drop, get_or-replicate, get_or_past, length-replicate}
use Rattle.std.proofs.lemmas.Nat.{same_from_place, row_fits, mod_below, div_below, div-add-mod'}
use Rattle.std.{proofs.lemmas.Nat.Bits.{bit_at_or, bit_at-lt, bit_at-zero, bit_at_set_same, bit_at_set_other}, specs.Int.{bit_at}}
use Rattle.undo_trail.specs.Bits.{bit_in, column, has}

pub bit_in-or : (a b i : ℕ) → bit_in (bit_or a b) i ≡ (bit_in a i || bit_in b i)
bit_in-or a b i =
    let e = bit_at_or a b i in
    let la = bit_at-lt a i in
    let lb = bit_at-lt b i in
    elim (cases_eq (bit_at a i) 1) [
      | inl one ↦ eq-eqb (bit_at (bit_or a b) i) 1 (omega arith) ∙ ap (λ x. x || bit_in b i) (sym (eq-eqb (bit_at a i) 1 one))
      | inr other ↦
          let same : bit_at (bit_or a b) i ≡ bit_at b i = omega arith in
          ap (λ x. x == 1) same ∙ ap (λ x. x || bit_in b i) (sym (ne_eqb (bit_at a i) 1 other))
    ]

-- the word of a column stands before the next row
pub word_below : (c words : ℕ) → c < 64 * words → c / 64 < words
word_below c words h = div_below c 64 words (lit< tt) (omega arith)

pub row_before : (a b w : ℕ) → a < b → a * w + w ≤ b * w
row_before a b w h = row_fits a w b w h (omega arith)

-- two rows of a table share no word, or are one
pub rows_apart : (a b w : ℕ) → (a * w ≡ b * w) ⊎ ((a * w + w ≤ b * w) ⊎ (b * w + w ≤ a * w))
rows_apart a b w = elim (cases_order a b) [
  | inl same ↦ inl (ap (λ x. x * w) same)
  | inr other ↦ elim other [ inl less ↦ inr (inl (row_before a b w less)) | inr more ↦ inr (inr (row_before b a w more)) ]
]

pub place_in : (r c rows words : ℕ) → r < rows → c < 64 * words → r * words + c / 64 < rows * words
place_in r c rows words rh ch = let w = word_below c words ch in let f = row_before r rows words rh in omega arith

pub has-clear : (words n r c : ℕ) → has words (replicate n 0) r c ≡ false
unfolding has
has-clear words n r c =
    let p : ℕ = r * words + c / 64 in
    let clear : List ℕ = replicate n 0 in
    let zero_there : get_or clear p 0 ≡ 0 = elim (cases_lt p n) [
      | inl below ↦ get_or-replicate n p 0 0 below
      | inr past ↦ get_or_past clear p 0 (let l : length clear ≡ n = length-replicate n 0 in omega arith)
    ] in
    rw zero_there (rw bit_at-zero refl)

pub column_of_row : (words : ℕ) (t : List ℕ) (r c : ℕ) → c < 64 * words
    → column (take words (drop (r * words) t)) c ≡ has words t r c
unfolding column has
column_of_row words t r c h =
    ap (λ x. bit_in x (c % 64)) (get_or-take words (drop (r * words) t) (c / 64) 0 (word_below c words h) ∙ get_or-drop (r * words) t (c / 64) 0)

-- a word with one bit more
pub has_set : (t : List ℕ) (words r c : ℕ) (u : List ℕ) → r * words + c / 64 < length t → c < 64 * words
    → u ≡ set t (r * words + c / 64) (bit_or (get_or t (r * words + c / 64) 0) (1 * 2 ^ (c % 64) % 2 ^ 64))
    → (q d : ℕ) → d < 64 * words → has words u q d ≡ (if (q == r) && (d == c) then true else has words t q d)
unfolding has
has_set t words r c u inside ch is q d dh =
    let p : ℕ = r * words + c / 64 in
    let s : ℕ = q * words + d / 64 in
    let word : ℕ = bit_or (get_or t p 0) (1 * 2 ^ (c % 64) % 2 ^ 64) in
    let low_c = mod_below c 64 (omega arith) in
    let low_d = mod_below d 64 (omega arith) in
    let whole_c = div-add-mod' c 64 in
    let whole_d = div-add-mod' d 64 in
    elim (cases_eq s p) [
      | inl same ↦
          let both = same_from_place q (d / 64) r (c / 64) words (word_below d words dh) (word_below c words ch) same in
          let here : get_or u s 0 ≡ word = ap (λ x. get_or u x 0) same ∙ ap (λ x. get_or x p 0) is ∙ get_or-set_same t p word 0 inside in
          elim (cases_eq (d % 64) (c % 64)) [
            | inl low ↦
                let equal : d ≡ c = omega (arith, both.1) in
                rw (here, eq-eqb q r both.0, eq-eqb d c equal, low) (eq-eqb (bit_at word (c % 64)) 1 (bit_at_set_same w64 (get_or t p 0) (c % 64) low_c))
            | inr high ↦
                let differ : d ≢ c = (λ e. high (ap (λ x. x % 64) e)) in
                rw (here, eq-eqb q r both.0, ne_eqb d c differ)
                (ap (λ x. x == 1) (bit_at_set_other w64 (get_or t p 0) (c % 64) low_c (d % 64) high) ∙ ap (λ x. bit_in (get_or t x 0) (d % 64)) (sym same))
          ]
      | inr other ↦
          let kept : get_or u s 0 ≡ get_or t s 0 = ap (λ x. get_or x s 0) is ∙ get_or-set_other t p s word 0 other in
          let outside : ((q == r) && (d == c)) ≡ false = elim (cases_eq q r) [
            | inl row ↦ rw (eq-eqb q r row) (ne_eqb d c (λ e. other (rw (row, e) refl)))
            | inr elsewhere ↦ rw (ne_eqb q r elsewhere) refl
          ] in
          rw (kept, outside) refl
    ]

-- a row with the bits of another
pub has_joined : (t u : List ℕ) (words dst src : ℕ)
    → ((k : ℕ) → k < words → get_or u (dst * words + k) 0 ≡ bit_or (get_or t (dst * words + k) 0) (get_or t (src * words + k) 0))
    → ((p : ℕ) → (p < dst * words) ⊎ (dst * words + words ≤ p) → get_or u p 0 ≡ get_or t p 0)
    → (q d : ℕ) → d < 64 * words → has words u q d ≡ (if q == dst then has words t q d || has words t src d else has words t q d)
unfolding has
has_joined t u words dst src joined others q d dh =
    let k = word_below d words dh in
    elim (cases_order q dst) [
      | inl same ↦
          rw (same, eq-eqb dst dst refl) (ap (λ x. bit_in x (d % 64)) (joined (d / 64) k)
          ∙ bit_in-or (get_or t (dst * words + d / 64) 0) (get_or t (src * words + d / 64) 0) (d % 64))
      | inr apart ↦
          let out : (q * words + d / 64 < dst * words) ⊎ (dst * words + words ≤ q * words + d / 64) = elim apart [
            | inl less ↦ inl (let f = row_before q dst words less in omega arith)
            | inr more ↦ inr (let f = row_before dst q words more in omega arith)
          ] in
          let no : q ≢ dst = elim apart [ inl less ↦ (λ e. absurd (omega arith)) | inr more ↦ (λ e. absurd (omega arith)) ] in
          rw (ne_eqb q dst no) (ap (λ x. bit_in x (d % 64)) (others (q * words + d / 64) out))
    ]

-- a word that is 0 has none of its columns
pub column-clear : (ws : List ℕ) (c : ℕ) → get_or ws (c / 64) 0 ≡ 0 → column ws c ≡ false
unfolding column
column-clear ws c zero_there = rw zero_there (rw bit_at-zero refl)
