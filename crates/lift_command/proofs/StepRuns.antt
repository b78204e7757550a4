-- The lines of steps that lead somewhere lead there too.
use Rattle.std.proofs.Common.{◌≡◌, ℕ, zero, suc, ◌<◌, true, false, List, [], ◌∷◌, Option, Some, None, length, refl, ◌∙◌, arith}
use Rattle.std.{proofs.lemmas.{Option.{slice_get_within}, List.Elements.{All-nil, All-cons, All-head, All-tail}}, specs.Prelude.{All, slice_get}}
use Rattle.std.specs.Option.{option_map, option_and_then}
use Rattle.pc_common.specs.Case.{Case}
use Rattle.pc_syntax.specs.{declared.term.Sort.TheVariants.{Microop}, Truth.{range_of}, Closed.{closed_forall, closed_exists}}
use Rattle.pc_ground.specs.NodeWords.{AreSmall}
use Rattle.static_preds.proofs.Ranges.{op_count}
use Rattle.lifted_facts.specs.declared.way.Instance.TheVariants.{Op as OpInstance, Core as CoreInstance}
use Rattle.lifted_facts.specs.{declared.way.Way.TheVariants.{Left, Right, Not, Bind, Inst, Member}, PlainFacts.{PlainFact, said, Branch}}
use Rattle.lifted_facts.specs.{Parts.{said_inside, part_of}, Lifted.{LiftedStep, derive, split, close, Advances, Runs}}
use Rattle.lifted_check.specs.{StepLines.{numbers_of, IsSmall, HasValue, IsStepLine}, LiftedTexts.{LinesRun}}
use Rattle.lift_command.specs.WrittenLines.{line_of, lines_of, HasSmallCore}

found : {X Y : Type 0} (f : X → Y) (o : Option X) (y : Y) → option_map f o ≡ Some y → (x : X) × (o ≡ Some x)
found f None y e = cc
found f (Some x) y e = (x, refl)

placed : {X : Type 0} (xs : List X) (i : ℕ) (o : Option X) → option_and_then (slice_get xs) (Some i) ≡ o → (x : X) → o ≡ Some x → i < length xs
placed xs i o e x is = slice_get_within xs i x (e ∙ is)

-- the micro-op of an instantiation is the test's
in_range : (c : Case) (f : PlainFact) (i : ℕ) (g : PlainFact) → part_of c (Inst (OpInstance i)) f ≡ Some g → i < length c.ops
in_range c (said true (closed_forall Microop p) slots s) i g e =
    let m = found (λ v. said_inside true p slots (v ∷ [])) (slice_get (range_of c Microop) i) g e in
    (let within = slice_get_within (range_of c Microop) i m.0 m.1 in omega (arith, within, op_count c))
in_range c (said false (closed_exists Microop p) slots s) i g e =
    let m = found (λ v. said_inside false p slots (v ∷ [])) (slice_get (range_of c Microop) i) g e in
    (let within = slice_get_within (range_of c Microop) i m.0 m.1 in omega (arith, within, op_count c))
in_range c f i g e = cc

there_at : {X : Type 0} (xs : List X) (i : ℕ) → i < length xs → (x : X) × (slice_get xs i ≡ Some x)
there_at [] i h = absurd (omega (arith, h))
there_at (x ∷ xs) zero h = (x, refl)
there_at (x ∷ xs) (suc i) h = there_at xs i (omega (arith, h))

value_fits : (c : Case) (b : Branch) (os next : List Branch) (s : LiftedStep) → AreSmall c.ops → HasSmallCore s → Advances c s (b ∷ os) next → HasValue c.ops s
value_fits c b os next (derive (Inst (OpInstance i)) k) small core a =
    let part = a.1.1 in
    let o = there_at c.ops i (in_range c part.0 i a.1.0 part.2) in
    let n = small i o.0 o.1 in
    (o.0, o.1, n.0, n.1)
value_fits c b os next (derive (Inst (CoreInstance n)) k) small core a = core
value_fits c b os next (derive Left k) small core a = tt
value_fits c b os next (derive Right k) small core a = tt
value_fits c b os next (derive Not k) small core a = tt
value_fits c b os next (derive Bind k) small core a = tt
value_fits c b os next (derive (Member j) k) small core a = tt
value_fits c b os next (split k) small core a = tt
value_fits c b os next (close l) small core a = tt

pub values_fit : (c : Case) (steps : List LiftedStep) (opens rest : List Branch) → AreSmall c.ops → All HasSmallCore steps
    → Runs c steps opens rest → All (HasValue c.ops) steps
values_fit c [] opens rest small cores r = All-nil (HasValue c.ops)
values_fit c (s ∷ ss) [] rest small cores r = absurd r.1
values_fit c (s ∷ ss) (b ∷ os) rest small cores r =
    All-cons (HasValue c.ops) s ss (value_fits c b os r.0 s small (All-head HasSmallCore s ss cores) r.1)
    (values_fit c ss r.0 rest small (All-tail HasSmallCore s ss cores) r.2)

abbrev AreSmallNumbers : LiftedStep → Type 0
AreSmallNumbers s = All IsSmall (numbers_of s)

pub lines_run : (c : Case) (steps : List LiftedStep) (opens rest : List Branch) → All AreSmallNumbers steps
    → All (HasValue c.ops) steps → Runs c steps opens rest
    → LinesRun c (lines_of c.ops steps) opens rest
lines_run c [] opens rest small values r = r
lines_run c (s ∷ ss) opens rest small values r =
    let is_line : IsStepLine c.ops (line_of c.ops s) s =
    record { small = All-head AreSmallNumbers s ss small; value = All-head (HasValue c.ops) s ss values; is = refl } in
    (r.0, (s, is_line, r.1), lines_run c ss r.0 rest (All-tail AreSmallNumbers s ss small) (All-tail (HasValue c.ops) s ss values) r.2)
