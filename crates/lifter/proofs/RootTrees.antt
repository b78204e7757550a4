-- The ground tree of axioms is And over them as facts; and the start of following a refutation of it.
use Rattle.std.proofs.{Common.{◌≡◌, ℕ, true, false, List, [], ◌∷◌, Some, map, reverse, refl, sym, ◌∙◌, ap, subst}, lemmas.Option.{slice_get-map}}
use Rattle.std.specs.{Prelude.{slice_get, Contains}, Option.{option_map}}
use Rattle.pc_common.{specs.{Case.{Case}, World.{Node, World}, Steps.{Step}}, proofs.{Elements.{in_from_contains}, Places.{one_item}}}
use Rattle.pc_syntax.specs.{declared.closed.Closed.{Closed}, Closed.{PlainClosed, plain_closed}}
use Rattle.pc_ground.specs.declared.{node_key.NodeKey.{NodeKey}, row.{Row.{Row}, RowKind.TheVariants.{False}}, version.Version.TheVariants.{One}}
use Rattle.pc_ground.specs.{Keys.{key_node, row_node, renamed_kind}, Tree.{Tree, always, never}, Rows.{rows_of, root_kind, IsPart}}
use Rattle.pc_ground.specs.{Unfolded.{closed_unfolded}, GroundTree.{closed_ground_tree}, Stages.{plain_axioms}, Refutes.{asserted, all_signed, IsRefutation}}
use Rattle.pc_ground.proofs.{FlatRows.{root_of, part_whole, part_row, renamed_false}, Refuted.{refutation_sound}}
use Rattle.lifted_facts.specs.PlainFacts.{said, Branch, root}
use Rattle.lifter.specs.{Trees.{fact_tree, said_tree, joined_trees}, declared.{kind.FactKind.TheVariants.{False as NeverKind, Open}, state.State.{State}}}
use Rattle.lifter.specs.{Kinds.{kind_of}, KnownFacts.{TellsAll}, States.{branch_of, IsGood, IsGoodState, no_more, IsMatchedState}}
use Rattle.lifter.{specs.{PartLists.{facts_from}, Unfoldings.{HasUnfolded}, Progress.{HasStepsLeft}}, proofs.TreeLaws.{over_all, start_tree}}
use Rattle.lifter.proofs.{CoveredBranches.{covered_all}, KnownLaws.{good_same, matched_same}}

roots : (c : Case) (axioms : List PlainClosed) → map (λ p. said_tree c true p []) axioms ≡ map (fact_tree c) (root axioms)
roots c [] = refl
roots c (p ∷ ps) =
    ap (λ t. t ∷ map (λ p. said_tree c true p []) ps) (sym (start_tree c [] true p)) ∙ ap (λ ts. fact_tree c (said true p [] 0) ∷ ts) (roots c ps)

pub root_tree : (c : Case) (axioms : List PlainClosed) → closed_ground_tree c axioms ≡ facts_from c (root axioms) 0
root_tree c axioms = over_all true (closed_unfolded c []) axioms ∙ ap (joined_trees true) (roots c axioms)

abbrev nowhere : World Node
nowhere = record { nodes = []; order = [] }

nothing : {X : Type 0} (x : X) → Contains [] x → ⊥
nothing x h = in_from_contains x [] h

pub no_always : (t : Tree Node) (steps : List (Step Node)) → t ≡ always → IsRefutation One t steps → ⊥
no_always t steps e r =
    let P : Tree Node → Type 0 = λ u. IsRefutation One u steps in
    refutation_sound One always steps (subst P e r) nowhere
    (record { ends = λ a b h. absurd (nothing (a, b) h); irreflexive = λ a h. nothing (a, a) h; transitive = λ a b d h k. absurd (nothing (a, b) h) }) refl

-- the kind of a tree by its first row
pub row_never : (t : Tree Node) → root_kind t ≡ False → kind_of t ≡ NeverKind
row_never never e = refl
row_never _ e = cc

pub row_open : (t : Tree Node) (steps : List (Step Node)) → (root_kind t ≡ False → ⊥) → IsRefutation One t steps → kind_of t ≡ Open
row_open always steps refused r = absurd (no_always always steps refl r)
row_open never steps refused r = absurd (refused refl)
row_open _ steps refused r = refl

open_some : (t : Tree Node) → kind_of t ≡ Open → t ≡ never → ⊥
open_some never e f = cc
open_some _ e f = cc

-- the whole tree stands at position 0
pub stands_whole : (t u : Tree Node) (rows : List (Row Node)) → rows ≡ rows_of t → t ≡ u → IsPart rows 0 u
stands_whole t u rows e f =
    let P : List (Row Node) → Type 0 = λ rs. IsPart rs 0 u in
    let Q : Tree Node → Type 0 = λ v. IsPart (rows_of t) 0 v in
    subst P (sym e) (subst Q f (part_whole t))

pub begun : (c : Case) (rows : List (Row Node)) (axioms : List PlainClosed) (steps : List (Step Node)) (old new : State)
    → rows ≡ rows_of (closed_ground_tree c axioms)
    → IsRefutation One (closed_ground_tree c axioms) steps → kind_of (closed_ground_tree c axioms) ≡ Open
    → branch_of old ≡ root axioms → old.known ≡ [] → old.later.items ≡ [] → old.steps ≡ [] → HasUnfolded c rows (facts_from c (root axioms) 0) 0 old new
    → HasStepsLeft c rows (root axioms ∷ []) new true steps
begun c rows axioms steps old new spelled refuted is_open branch known later none unfolded =
    let t = closed_ground_tree c axioms in
    let start : List Branch = root axioms ∷ [] in
    let turned : reverse old.later.items ≡ [] = ap reverse later in
    let first : IsGood c rows start (root axioms) [] [] [] = record { run = refl; known = λ key k i. absurd i; later = tt } in
    let good : IsGoodState c rows start old = good_same c rows start (root axioms) (branch_of old) [] old.known [] (reverse old.later.items) [] old.steps
    (sym branch) (sym known) (sym turned) (sym none) first in
    let found : IsMatchedState c rows old [] = matched_same c rows [] old.known [] (reverse old.later.items) [] (sym known) (sym turned) no_more in
    let T : Tree Node → Type 0 = λ u. TellsAll rows new.known (asserted u 0) in
    record {
      tree = t;
      spelled = spelled;
      is_some = open_some t is_open;
      opens = all_signed false (asserted t 0) ∷ [];
      run = refuted;
      at = record {
        first = all_signed false (asserted t 0);
        rest = [];
        are = refl;
        good = unfolded.moves.good start good;
        covered = covered_all rows new.known (asserted t 0) (subst T (sym (root_tree c axioms)) unfolded.told);
        matched = unfolded.moves.matched start [] good found;
      };
    }

-- an axiom by its place
pub axiom_there : (axioms : List Closed) (k : ℕ) (a : Closed) → slice_get axioms k ≡ Some a
    → slice_get (root (plain_axioms axioms)) k ≡ Some (said true (plain_closed a.body) [] 0)
axiom_there axioms k a e =
    slice_get-map (λ p. said true p [] 0) (plain_axioms axioms) k
    ∙ ap (option_map (λ p. said true p [] 0))
    (slice_get-map (λ (x : Closed). plain_closed x.body) axioms k ∙ ap (option_map (λ (x : Closed). plain_closed x.body)) e)

-- what stands at the root, by the first row of the code
kind_first : (t : Tree Node) (rows : List (Row Node)) (r : Row NodeKey) → rows ≡ rows_of t → slice_get rows 0 ≡ Some (row_node r)
    → renamed_kind key_node r.kind ≡ root_kind t
kind_first t rows r spelled got =
    let P : List (Row Node) → Type 0 = λ rs. slice_get rs 0 ≡ Some (row_node r) in
    ap (λ (q : Row Node). q.kind) (one_item (row_node r) (root_of t) (sym (subst P spelled got) ∙ part_row (rows_of t) 0 t (part_whole t)))

-- the axioms together are False, or no constant
pub axioms_never : (c : Case) (axioms : List PlainClosed) (rows : List (Row Node)) (r : Row NodeKey) → rows ≡ rows_of (closed_ground_tree c axioms)
    → slice_get rows 0 ≡ Some (row_node r)
    → r.kind ≡ False → kind_of (facts_from c (root axioms) 0) ≡ NeverKind
axioms_never c axioms rows r spelled got is =
    let t = closed_ground_tree c axioms in
    ap kind_of (sym (root_tree c axioms)) ∙ row_never t (sym (kind_first t rows r spelled got) ∙ ap (renamed_kind key_node) is)

pub tree_open : (c : Case) (axioms : List PlainClosed) (rows : List (Row Node)) (r : Row NodeKey) (steps : List (Step Node))
    → rows ≡ rows_of (closed_ground_tree c axioms)
    → slice_get rows 0 ≡ Some (row_node r) → (r.kind ≡ False → ⊥) → IsRefutation One (closed_ground_tree c axioms) steps
    → kind_of (closed_ground_tree c axioms) ≡ Open
tree_open c axioms rows r steps spelled got other refuted =
    let t = closed_ground_tree c axioms in
    row_open t steps (λ e. other (renamed_false r.kind (kind_first t rows r spelled got ∙ e))) refuted

pub axioms_open : (c : Case) (axioms : List PlainClosed) → kind_of (closed_ground_tree c axioms) ≡ Open → kind_of (facts_from c (root axioms) 0) ≡ Open
axioms_open c axioms e = ap kind_of (sym (root_tree c axioms)) ∙ e
