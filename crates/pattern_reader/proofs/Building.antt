-- The reads of a pattern as they are gathered from its open values.
use Rattle.std.proofs.Common.{◌≡◌, ℕ, zero, suc, ◌<◌, ◌≤◌, ◌+◌, ◌*◌, List, [], ◌∷◌, ◌++◌, Some, length, map, take, get_or, refl, sym, ◌∙◌, ap, subst, arith}
use Rattle.std.proofs.lemmas.List.{map-append, length-map, take_more, take_all, take-map, Elements.{All-append}}
use Rattle.std.{proofs.{lemmas.Option.{slice_get_within, get_or_from_slice_get, slice_get-map}, Math.Nat.{mul_assoc}}, specs.{Prelude.{All}, List.{slice_get}}}
use Rattle.std.specs.Option.{option_map}
use Rattle.pc_common.specs.Case.{Value, Case}
use Rattle.pc_case.specs.Plain.{plain_value}
use Rattle.litmus_reader.specs.{declared.{fault.CaseFault.{CaseFault}, lists.CaseLists.{CaseLists}}, Lists.{case_by, AreLists}}
use Rattle.pattern_reader.specs.{Opens.{Open, plain_open}, Answer.{IsTooMany, pattern_with}, declared.{opens.Open.{Open as CodeOpen}, rows.OpenRead.{OpenRead}}}
use Rattle.pattern_reader.specs.{declared.pattern.TheConstants.{MAX_ROWS}, Rows.{Pattern, values_of, choices_of, combinations, rows_of}}
use Rattle.pattern_reader.{specs.Reads.{values_in, op_in, HasValues, AddsRead, IsTooManyAt, IsPattern, pattern_by}, proofs.ReadableValues.{values_some}}

abbrev pub ops_of : List Open → List ℕ
ops_of opens = map (λ (o : Open). o.op) opens

-- the reads are those of these open values, and have so many rows
pub record AreRead (c : Case) (reads : List OpenRead) (rows : ℕ) (opens : List Open) : Type 0 where
  pub ops : map op_in reads ≡ ops_of opens
  pub choices : map values_in reads ≡ choices_of c (ops_of opens)
  pub rows_are : rows ≡ combinations (choices_of c (ops_of opens))
  pub few : rows ≤ MAX_ROWS
  pub some : All HasValues reads

-- a choice more
pub combinations_more : (css : List (List Value)) (vs : List Value) → combinations (css ++ vs ∷ []) ≡ combinations css * length vs
combinations_more [] vs = omega arith
combinations_more (c ∷ css) vs = ap (λ n. length c * n) (combinations_more css vs) ∙ sym (mul_assoc (length c) (combinations css) (length vs))

ops_more : (opens : List Open) (o : Open) → ops_of (opens ++ o ∷ []) ≡ ops_of opens ++ o.op ∷ []
ops_more opens o = map-append (λ (x : Open). x.op) opens (o ∷ [])

choices_more : (c : Case) (opens : List Open) (o : Open)
    → choices_of c (ops_of (opens ++ o ∷ [])) ≡ choices_of c (ops_of opens) ++ values_of c o.op ∷ []
choices_more c opens o = ap (choices_of c) (ops_more opens o) ∙ map-append (values_of c) (ops_of opens) (o.op ∷ [])

-- before the first open value
pub read_none : (c : Case) (reads : List OpenRead) → reads ≡ [] → AreRead c reads 1 []
read_none c reads is = subst (λ rs. AreRead c rs 1 []) (sym is)
    (record { ops = refl; choices = refl; rows_are = refl; few = omega arith; some = λ k d inside. absurd (omega (arith, inside)) })

-- and with one more
pub read_more : (c : Case) (reads new : List OpenRead) (rows more : ℕ) (opens : List Open) (o : Open)
    → AreRead c reads rows opens → AddsRead c o.op rows reads new more → AreRead c new more (opens ++ o ∷ [])
read_more c reads new rows more opens o r a = record {
  ops = ap (map op_in) a.behind ∙ map-append op_in reads (a.read ∷ []) ∙ ap (λ ks. ks ++ op_in a.read ∷ []) r.ops
      ∙ ap (λ k. ops_of opens ++ k ∷ []) a.op_is ∙ sym (ops_more opens o);
  choices = ap (map values_in) a.behind ∙ map-append values_in reads (a.read ∷ []) ∙ ap (λ css. css ++ values_in a.read ∷ []) r.choices
      ∙ ap (λ vs. choices_of c (ops_of opens) ++ vs ∷ []) a.values ∙ sym (choices_more c opens o);
  rows_are = a.product ∙ ap (λ n. n * length (values_of c o.op)) r.rows_are
      ∙ sym (combinations_more (choices_of c (ops_of opens)) (values_of c o.op)) ∙ ap combinations (sym (choices_more c opens o));
  few = a.few;
  some = subst (λ rs. All HasValues rs) (sym a.behind) (All-append HasValues reads (a.read ∷ []) r.some (all_one a.read (has_values c o.op a.read a.values)));
}
  where
    all_one : (r : OpenRead) → HasValues r → All HasValues (r ∷ [])
    all_one r h zero d inside = h
    all_one r h (suc k) d inside = absurd (omega (arith, inside))

    has_values : (c : Case) (k : ℕ) (r : OpenRead) → values_in r ≡ values_of c k → HasValues r
    has_values c k r same =
        let some = values_some c k in
        let length_is : length (values_in r) ≡ length r.values = length-map r.values plain_value in
        let lengths = ap length same in omega (arith, some, length_is, lengths)

-- the next one is too much
pub too_many : (c : Case) (reads : List OpenRead) (rows : ℕ) (opens : List Open) (k : ℕ) (o : CodeOpen) (fault : CaseFault)
    → slice_get opens k ≡ Some (plain_open o) → AreRead c reads rows (take k opens) → IsTooManyAt c o rows fault → IsTooMany c opens fault
too_many c reads rows opens k o fault here r many =
    let next : take (k + 1) opens ≡ take k opens ++ plain_open o ∷ [] =
    take_more opens k (plain_open o) (slice_get_within opens k (plain_open o) here)
    ∙ ap (λ x. take k opens ++ x ∷ []) (get_or_from_slice_get opens k (plain_open o) (plain_open o) here) in
    let product : combinations (choices_of c (ops_of (take (k + 1) opens))) ≡ rows * length (values_of c o.op) =
    ap (λ os. combinations (choices_of c (ops_of os))) next ∙ ap combinations (choices_more c (take k opens) (plain_open o))
    ∙ combinations_more (choices_of c (ops_of (take k opens))) (values_of c o.op)
    ∙ ap (λ n. n * length (values_of c o.op)) (sym r.rows_are) in record {
      k = k;
      any = plain_open o;
      here = here;
      few = subst (λ n. n ≤ MAX_ROWS) r.rows_are r.few;
      many = subst (λ n. MAX_ROWS < n) (sym product) many.many;
      place = o.at;
      at = refl;
      is = many.is;
    }

-- the first open values of the code
taken : (opens : List CodeOpen) (k : ℕ) (o : CodeOpen) → slice_get opens k ≡ Some o
    → map plain_open (take (k + 1) opens) ≡ map plain_open (take k opens) ++ plain_open o ∷ []
taken opens k o here =
    ap (map plain_open) (take_more opens k o (slice_get_within opens k o here)) ∙ map-append plain_open (take k opens) (get_or opens k o ∷ [])
    ∙ ap (λ (x : CodeOpen). map plain_open (take k opens) ++ plain_open x ∷ []) (get_or_from_slice_get opens k o o here)

pub next_read : (c : Case) (reads new : List OpenRead) (rows more : ℕ) (opens : List CodeOpen) (k : ℕ) (o : CodeOpen) → slice_get opens k ≡ Some o
    → AreRead c reads rows (map plain_open (take k opens)) → AddsRead c o.op rows reads new more → AreRead c new more (map plain_open (take (k + 1) opens))
next_read c reads new rows more opens k o here r a =
    subst (AreRead c new more) (sym (taken opens k o here)) (read_more c reads new rows more (map plain_open (take k opens)) (plain_open o) r a)

pub too_many_here : (c : Case) (reads : List OpenRead) (rows : ℕ) (opens : List CodeOpen) (k : ℕ) (o : CodeOpen) (fault : CaseFault)
    → slice_get opens k ≡ Some o
    → AreRead c reads rows (map plain_open (take k opens)) → IsTooManyAt c o rows fault → IsTooMany c (map plain_open opens) fault
too_many_here c reads rows opens k o fault here r many =
    too_many c reads rows (map plain_open opens) k o fault (slice_get-map plain_open opens k ∙ ap (option_map plain_open) here)
    (subst (AreRead c reads rows) (sym (take-map plain_open k opens)) r) many

-- all of them
pub all_read : (c : Case) (reads : List OpenRead) (rows : ℕ) (opens : List CodeOpen) (k : ℕ) → length opens ≤ k
    → AreRead c reads rows (map plain_open (take k opens)) → AreRead c reads rows (map plain_open opens)
all_read c reads rows opens k past r = subst (λ os. AreRead c reads rows (map plain_open os)) (take_all k opens past) r

pub pattern_made : (lists : CaseLists) (reads : List OpenRead) (rows : ℕ) (opens : List CodeOpen) → AreLists lists → length opens < 4294967296
    → AreRead (case_by lists) reads rows (map plain_open opens) → IsPattern lists reads rows
pattern_made lists reads rows opens are short r =
    let count : length reads ≡ length opens =
    sym (length-map reads op_in) ∙ ap length r.ops ∙ length-map (map plain_open opens) (λ (o : Open). o.op) ∙ length-map opens plain_open in record {
      are = record { lists_are = are; choices = r.choices ∙ ap (choices_of (case_by lists)) (sym r.ops); some = r.some };
      rows_are = r.rows_are ∙ ap combinations (sym r.choices);
      few = r.few;
      bound = omega (arith, count, short);
    }

pub pattern_is : (lists : CaseLists) (reads : List OpenRead) (rows : ℕ) (opens : List CodeOpen) (p : Pattern)
    → AreRead (case_by lists) reads rows (map plain_open opens) → p ≡ pattern_by lists reads
    → (p ≡ pattern_with (case_by lists) (map plain_open opens)) × (rows_of p ≤ MAX_ROWS)
pattern_is lists reads rows opens p r is =
    let same : p ≡ pattern_with (case_by lists) (map plain_open opens) = is ∙ ap (λ ks. record { case = case_by lists; opens = ks }) r.ops in
    (same, subst (λ q. rows_of q ≤ MAX_ROWS) (sym same) (subst (λ n. n ≤ MAX_ROWS) r.rows_are r.few))
