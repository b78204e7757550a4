-- What holds of items without a fault.
use Rattle.std.proofs.Common.{◌≡◌, ℕ, zero, suc, ◌<◌, ◌≤◌, List, [], ◌∷◌, ◌++◌, Option, Some, None, length, map, slice_get, refl, sym, ap, subst, ◌∙◌, ◌⊎◌, inl, inr, arith, append_assoc}
use Rattle.std.proofs.lemmas.List.{append-nil, length-append, length-map, Elements.{Contains-push_cases}}
use Rattle.std.{proofs.lemmas.Option.{slice_get-map, slice_get_within, get_or_from_slice_get}, specs.{Prelude.{Contains, ◌↔◌, IsNone}, List.{filter_map}}}
use Rattle.std.specs.Option.{option_map}
use Rattle.pc_common.specs.declared.{place.Place.{Place}, fault.FaultKind.{FaultKind}}
use Rattle.pc_common.specs.declared.{fault.FaultKind.TheVariants.{CoreNumber, TooManyOps, DuplicateOp, AgainInitial, AgainFinal}, value.Value.{Value}}
use Rattle.pc_common.specs.declared.limits.TheConstants.{MAX_CORE, MAX_OPS}
use Rattle.pc_common.specs.Case.{Address as PlainAddress, page, entry_of, Value as PlainValue, MicroOp, Dependency, fence}
use Rattle.pc_case.specs.{declared.address.Address.{Address, TheVariants.{Page, Entry}}, MicroOps.{AreMicroOps}, Stated.{IsStatedOnce, AreWithin}}
use Rattle.pc_case.specs.Plain.{address_at}
use Rattle.litmus_reader.specs.Items.{value_of, microop_of, relationship_of, initial_of, final_of, microops_in, heads_in, relationships_in, initial_in, final_in, kind_of_action, touch_of_action, op_of, place_in, dependency_of, stated_by}
use Rattle.litmus_reader.specs.Content.{Never, First, OverCore, OverMany, SplitFrom, DuplicateOf, SomeEarlier, Unknown, AgainStated, MarkFault, HeadFault, ActionFault, IsFaultOf, IsClean}
use Rattle.litmus_reader.specs.declared.item.{Head.{Head}, Action.{Action, TheVariants.{Read as reads, Write as writes, Fence as fences}}, Microop.{Microop}}
use Rattle.litmus_reader.specs.declared.item.{Relationship.{Relationship}, ValueLine.{ValueLine}, Item.{Item}}
use Rattle.litmus_reader.specs.declared.item.Item.TheVariants.{Microop as microop, Relationship as relationship, Initial as initial, Final as final, Permitted as permitted, Forbidden as forbidden}
use Rattle.litmus_reader.proofs.BuilderFacts.{never-first, never-others, added, same, same_heads, added_head, place_in-append, known}

pub clean-none : IsClean []
clean-none [] item after e = absurd (cc)
clean-none (b ∷ before) item after e = absurd (cc)

pub clean-front : (b rest : List Item) → IsClean (b ++ rest) → IsClean b
clean-front b rest clean before item after e =
    clean before item (after ++ rest) (ap (λ (is : List Item). is ++ rest) e ∙ append_assoc before (item ∷ after) rest)

-- where one more item stands
pushed : (xs : List Item) (x : Item) (before : List Item) (item : Item) (after : List Item) → xs ++ x ∷ [] ≡ before ++ item ∷ after
    → ((before ≡ xs) × (item ≡ x)) ⊎ ((more : List Item) × (xs ≡ before ++ item ∷ more))
pushed [] x [] item after e = inl (refl, cc)
pushed [] x (b ∷ []) item after e = absurd (cc)
pushed [] x (b ∷ c ∷ before) item after e = absurd (cc)
pushed (y ∷ xs) x [] item after e = inr (xs, cc)
pushed (y ∷ xs) x (b ∷ before) item after e =
    let first : y ≡ b = cc in
    let rest : xs ++ x ∷ [] ≡ before ++ item ∷ after = cc in
    elim (pushed xs x before item after rest) [
      | inl h ↦ inl ((λ i. sym first i ∷ h.0 i), h.1)
      | inr h ↦ inr (h.0, (λ i. first i ∷ h.1 i))
    ]

pub clean-push : (b : List Item) (i : Item) → IsClean b → Never (IsFaultOf b i) → IsClean (b ++ i ∷ [])
clean-push b i clean never before item after e =
    elim (pushed b i before item after e) [
      | inl h ↦ subst (λ (is : List Item). Never (IsFaultOf is item)) (sym h.0) (subst (λ (x : Item). Never (IsFaultOf b x)) (sym h.1) never)
      | inr h ↦ clean before item h.0 h.1
    ]

-- what each item without a fault keeps holds of all
module _ (P : List Item → Type 0) (first : P []) (step : (b : List Item) (i : Item) → IsClean b → Never (IsFaultOf b i) → P b → P (b ++ i ∷ [])) where
  go : (b rest : List Item) → IsClean (b ++ rest) → P b → P (b ++ rest)
  go b [] clean p = subst P (sym (append-nil b)) p
  go b (i ∷ rest) clean p =
      let together : (b ++ i ∷ []) ++ rest ≡ b ++ i ∷ rest = append_assoc b (i ∷ []) rest in
      subst P together
      (go (b ++ i ∷ []) rest (subst IsClean (sym together) clean) (step b i (clean-front b (i ∷ rest) clean) (clean b i rest refl) p))

  pub each_clean : (items : List Item) → IsClean items → P items
  each_clean items clean = go [] items clean first

-- what is no fault of a micro-op
module _ (heads : List Head) (h : Head) (never : Never (HeadFault heads h)) where
  abbrev later : FaultKind → Place → Type 0
  later = First (SomeEarlier heads (SplitFrom h)) (SomeEarlier heads (DuplicateOf h))

  pub core_fits : h.core.value ≤ MAX_CORE
  core_fits =
      let no : MAX_CORE < h.core.value → ⊥ =
      λ over. never-first (OverCore h) (First (OverMany heads h) later) never (CoreNumber h.core.value) h.core.at (over, refl, refl) in
      omega arith

  pub room : length heads < MAX_OPS
  room =
      let others = never-others (OverCore h) (First (OverMany heads h) later) never in
      let no : MAX_OPS ≤ length heads → ⊥ = λ many. never-first (OverMany heads h) later others (TooManyOps MAX_OPS) h.at (many, refl, refl) in
      omega arith

  pub no_duplicate : (e : Head) → Contains heads e → e.g.value ≡ h.g.value → e.n ≡ h.n → ⊥
  no_duplicate e c g n =
      let others = never-others (OverMany heads h) later (never-others (OverCore h) (First (OverMany heads h) later) never) in
      never-others (SomeEarlier heads (SplitFrom h)) (SomeEarlier heads (DuplicateOf h)) others (DuplicateOp e.g.at h.g.at) h.g.at (e, c, (g, n, refl, refl))

-- a micro-op without a fault has none of its head
pub head_never : (b : List Item) (m : Microop) → Never (IsFaultOf b (microop m)) → Never (HeadFault (heads_in b) m.head)
head_never b m never = never-first (HeadFault (heads_in b) m.head) (ActionFault m.action) never

-- at most as many micro-ops as a test may have
few_step : (b : List Item) (i : Item) → IsClean b → Never (IsFaultOf b i) → length (heads_in b) ≤ MAX_OPS → length (heads_in (b ++ i ∷ [])) ≤ MAX_OPS
few_step b (microop m) clean never few =
    omega (arith, room (heads_in b) m.head (head_never b m never), ap length (added_head b m), length-append (heads_in b) (m.head ∷ []))
few_step b (relationship r) clean never few = omega (arith, ap length (same_heads b (relationship r) refl))
few_step b (initial v) clean never few = omega (arith, ap length (same_heads b (initial v) refl))
few_step b (final v) clean never few = omega (arith, ap length (same_heads b (final v) refl))
few_step b (permitted at) clean never few = omega (arith, ap length (same_heads b (permitted at) refl))
few_step b (forbidden at) clean never few = omega (arith, ap length (same_heads b (forbidden at) refl))

pub few : (items : List Item) → IsClean items → length (heads_in items) ≤ MAX_OPS
few = each_clean (λ items. length (heads_in items) ≤ MAX_OPS) (omega arith) few_step

-- cores up to the greatest one
abbrev AreCores : List Head → Type 0
AreCores hs = (h : Head) → Contains hs h → h.core.value ≤ MAX_CORE

cores_step : (b : List Item) (i : Item) → IsClean b → Never (IsFaultOf b i) → AreCores (heads_in b) → AreCores (heads_in (b ++ i ∷ []))
cores_step b (microop m) clean never all = λ h c.
    elim (Contains-push_cases (heads_in b) m.head h (subst (λ (hs : List Head). Contains hs h) (added_head b m) c)) [
      | inl d ↦ all h d
      | inr e ↦ subst (λ (x : Head). x.core.value ≤ MAX_CORE) e (core_fits (heads_in b) m.head (head_never b m never))
    ]
cores_step b (relationship r) clean never all = subst AreCores (sym (same_heads b (relationship r) refl)) all
cores_step b (initial v) clean never all = subst AreCores (sym (same_heads b (initial v) refl)) all
cores_step b (final v) clean never all = subst AreCores (sym (same_heads b (final v) refl)) all
cores_step b (permitted at) clean never all = subst AreCores (sym (same_heads b (permitted at) refl)) all
cores_step b (forbidden at) clean never all = subst AreCores (sym (same_heads b (forbidden at) refl)) all

cores : (items : List Item) → IsClean items → AreCores (heads_in items)
cores = each_clean (λ items. AreCores (heads_in items)) (λ h c. let k = c.1 in absurd (omega arith)) cores_step

-- no two elements are related
abbrev pub Apart : {X : Type 0} → (X → X → Type 0) → List X → Type 0
Apart {X} R xs = (j k : ℕ) (a b : X) → slice_get xs j ≡ Some a → slice_get xs k ≡ Some b → R a b → j ≡ k

last_or : {X : Type 0} (xs : List X) (x : X) (j : ℕ) (a : X) → slice_get (xs ++ x ∷ []) j ≡ Some a → (slice_get xs j ≡ Some a) ⊎ ((j ≡ length xs) × (a ≡ x))
last_or [] x zero a e = inr (refl, cc)
last_or [] x (suc j) a e = absurd (cc)
last_or (y ∷ xs) x zero a e = inl e
last_or (y ∷ xs) x (suc j) a e = elim (last_or xs x j a e) [ inl h ↦ inl h | inr h ↦ inr (ap suc h.0, h.1) ]

pub contains-get : {X : Type 0} (xs : List X) (j : ℕ) (a : X) → slice_get xs j ≡ Some a → Contains xs a
contains-get xs j a e = (j, slice_get_within xs j a e, get_or_from_slice_get xs j a a e)

apart-push : {X : Type 0} (R : X → X → Type 0) (xs : List X) (x : X) → ((a b : X) → R a b → R b a) → Apart R xs
    → ((e : X) → Contains xs e → R e x → ⊥) → Apart R (xs ++ x ∷ [])
apart-push {X} R xs x flips apart none j k a b at_j at_k r =
    elim (last_or xs x j a at_j) [
      | inl h ↦ elim (last_or xs x k b at_k) [
        | inl g ↦ apart j k a b h g r
        | inr g ↦ absurd (none a (contains-get xs j a h) (subst (R a) g.1 r))
      ]
      | inr h ↦ elim (last_or xs x k b at_k) [
        | inl g ↦ absurd (none b (contains-get xs k b g) (subst (R b) h.1 (flips a b r)))
        | inr g ↦ h.0 ∙ sym g.0
      ]
    ]

abbrev pub SameName : Head → Head → Type 0
SameName a b = (a.g.value ≡ b.g.value) × (a.n ≡ b.n)

names_step : (b : List Item) (i : Item) → IsClean b → Never (IsFaultOf b i) → Apart SameName (heads_in b) → Apart SameName (heads_in (b ++ i ∷ []))
names_step b (microop m) clean never apart =
    subst (Apart SameName) (sym (added_head b m))
    (apart-push SameName (heads_in b) m.head (λ x y r. (sym r.0, sym r.1)) apart (λ e c r. no_duplicate (heads_in b) m.head (head_never b m never) e c r.0 r.1))
names_step b (relationship r) clean never apart = subst (Apart SameName) (sym (same_heads b (relationship r) refl)) apart
names_step b (initial v) clean never apart = subst (Apart SameName) (sym (same_heads b (initial v) refl)) apart
names_step b (final v) clean never apart = subst (Apart SameName) (sym (same_heads b (final v) refl)) apart
names_step b (permitted at) clean never apart = subst (Apart SameName) (sym (same_heads b (permitted at) refl)) apart
names_step b (forbidden at) clean never apart = subst (Apart SameName) (sym (same_heads b (forbidden at) refl)) apart

pub names : (items : List Item) → IsClean items → Apart SameName (heads_in items)
names = each_clean (λ items. Apart SameName (heads_in items)) (λ j k a b e f r. absurd (cc)) names_step

abbrev pub SameAddress : ValueLine → ValueLine → Type 0
SameAddress a b = a.pa ≡ b.pa

-- lines of one kind state each address once
module _ (f : Item → Option ValueLine) (word : Value → Value → FaultKind)
    (judged : (b : List Item) (i : Item) (v : ValueLine) → f i ≡ Some v → Never (IsFaultOf b i) → Never (AgainStated word (filter_map f b) v)) where
  pages_step : (b : List Item) (i : Item) → IsClean b → Never (IsFaultOf b i) → Apart SameAddress (filter_map f b)
      → Apart SameAddress (filter_map f (b ++ i ∷ []))
  pages_step b i clean never apart = by (f i) refl
    where
      by : (o : Option ValueLine) → f i ≡ o → Apart SameAddress (filter_map f (b ++ i ∷ []))
      by None e = subst (Apart SameAddress) (sym (same f b i e)) apart
      by (Some v) e =
          subst (Apart SameAddress) (sym (added f b i v e))
          (apart-push SameAddress (filter_map f b) v (λ x y r. sym r) apart
          (λ u c r. judged b i v e never (word (value_of u.value) (value_of v.value)) v.at (u, c, r, refl, refl)))

  pub pages : (items : List Item) → IsClean items → Apart SameAddress (filter_map f items)
  pages = each_clean (λ items. Apart SameAddress (filter_map f items)) (λ j k a b e g r. absurd (cc)) pages_step

pub judged_initial : (b : List Item) (i : Item) (v : ValueLine) → initial_of i ≡ Some v → Never (IsFaultOf b i)
    → Never (AgainStated AgainInitial (initial_in b) v)
judged_initial b (initial u) v e never =
    let is : u ≡ v = cc in
    subst (λ (x : ValueLine). Never (AgainStated AgainInitial (initial_in b) x)) is
    (never-first (AgainStated AgainInitial (initial_in b) u) (MarkFault u.value) never)
judged_initial b (microop _) v e never = absurd (cc)
judged_initial b (relationship _) v e never = absurd (cc)
judged_initial b (final _) v e never = absurd (cc)
judged_initial b (permitted _) v e never = absurd (cc)
judged_initial b (forbidden _) v e never = absurd (cc)

pub judged_final : (b : List Item) (i : Item) (v : ValueLine) → final_of i ≡ Some v → Never (IsFaultOf b i) → Never (AgainStated AgainFinal (final_in b) v)
judged_final b (final u) v e never =
    let is : u ≡ v = cc in
    subst (λ (x : ValueLine). Never (AgainStated AgainFinal (final_in b) x)) is
    (never-first (AgainStated AgainFinal (final_in b) u) (MarkFault u.value) never)
judged_final b (microop _) v e never = absurd (cc)
judged_final b (relationship _) v e never = absurd (cc)
judged_final b (initial _) v e never = absurd (cc)
judged_final b (permitted _) v e never = absurd (cc)
judged_final b (forbidden _) v e never = absurd (cc)

-- the element at a place of a mapped list
mapped_get : {X Y : Type 0} (f : X → Y) (xs : List X) (k : ℕ) (y : Y) → slice_get (map f xs) k ≡ Some y → (x : X) × (slice_get xs k ≡ Some x) × (f x ≡ y)
mapped_get f [] k y e = absurd (cc)
mapped_get f (x ∷ xs) zero y e = (x, refl, cc)
mapped_get f (x ∷ xs) (suc k) y e = mapped_get f xs k y e

get_mapped : {X Y : Type 0} (f : X → Y) (xs : List X) (k : ℕ) (x : X) → slice_get xs k ≡ Some x → slice_get (map f xs) k ≡ Some (f x)
get_mapped f xs k x e = slice_get-map f xs k ∙ ap (option_map f) e

tag_of : PlainAddress → ℕ
tag_of (page p) = p.tag
tag_of (entry_of t) = t

index_of : PlainAddress → ℕ
index_of (page p) = p.index
index_of (entry_of t) = 0

one_address_at : (a b : Address) → address_at a ≡ address_at b → a ≡ b
unfolding tag_of index_of
one_address_at (Page t x) (Page u y) e = let tag = ap tag_of e in let index = ap index_of e in λ i. Page (tag i) (index i)
one_address_at (Entry t) (Entry u) e = ap Entry (ap tag_of e)
one_address_at (Page t x) (Entry u) e = absurd (cc)
one_address_at (Entry t) (Page u y) e = absurd (cc)

stated_once : (lines : List ValueLine) → Apart SameAddress lines → IsStatedOnce (map stated_by lines)
stated_once lines apart j k a b at_j at_k r =
    let (u, here, is_a) = mapped_get stated_by lines j a at_j in
    let (v, there, is_b) = mapped_get stated_by lines k b at_k in
    let address : address_at u.pa ≡ address_at v.pa =
    ap (λ (p : PlainAddress × PlainValue). p.0) is_a ∙ r ∙ sym (ap (λ (p : PlainAddress × PlainValue). p.0) is_b) in
    apart j k u v here there (one_address_at u.pa v.pa address)

pub initial_once : (items : List Item) → IsClean items → IsStatedOnce (map stated_by (initial_in items))
initial_once items clean = stated_once (initial_in items) (pages initial_of AgainInitial judged_initial items clean)

pub final_once : (items : List Item) → IsClean items → IsStatedOnce (map stated_by (final_in items))
final_once items clean = stated_once (final_in items) (pages final_of AgainFinal judged_final items clean)

fence_touches : (a : Action) → (kind_of_action a ≡ fence) ↔ IsNone (touch_of_action a)
fence_touches (reads m) = ((λ e. absurd (cc)), (λ e. absurd (cc)))
fence_touches (writes m) = ((λ e. absurd (cc)), (λ e. absurd (cc)))
fence_touches fences = ((λ e. refl), (λ e. refl))

pub are_micro_ops : (items : List Item) → IsClean items → AreMicroOps (map op_of (microops_in items))
are_micro_ops items clean =
    let ms = microops_in items in
    let head = λ (m : Microop). m.head in
    record {
      few = omega (arith, few items clean, length-map ms op_of, length-map ms head);
      cores = λ k o at.
          let (m, here, is) = mapped_get op_of ms k o at in
          let fits = cores items clean m.head (contains-get (map head ms) k m.head (get_mapped head ms k m here)) in
          let same_core : m.head.core.value ≡ o.core = ap (λ (x : MicroOp). x.core) is in
          omega arith;
      once = λ j k a b at_j at_k g n.
          let (m, here, is_a) = mapped_get op_of ms j a at_j in
          let (l, there, is_b) = mapped_get op_of ms k b at_k in
          names items clean j k m.head l.head (get_mapped head ms j m here) (get_mapped head ms k l there) (
            ap (λ (x : MicroOp). x.g) is_a ∙ g ∙ sym (ap (λ (x : MicroOp). x.g) is_b),
            ap (λ (x : MicroOp). x.n) is_a ∙ n
                ∙ sym (ap (λ (x : MicroOp). x.n) is_b),
          );
      fences = λ k o at.
          let (m, here, is) = mapped_get op_of ms k o at in
          subst (λ (x : MicroOp). (x.kind ≡ fence) ↔ IsNone x.touch) is (fence_touches m.action);
    }

-- each relationship is between micro-ops
abbrev AreKnown : List Head → List Relationship → Type 0
AreKnown hs rs = (r : Relationship) → Contains rs r → (place_in hs r.source < length hs) × (place_in hs r.target < length hs)

known_same : (b : List Item) (i : Item) → microop_of i ≡ None → relationship_of i ≡ None → AreKnown (heads_in b) (relationships_in b)
    → AreKnown (heads_in (b ++ i ∷ [])) (relationships_in (b ++ i ∷ []))
known_same b i no_op no_line all =
    subst (λ (hs : List Head). AreKnown hs (relationships_in (b ++ i ∷ []))) (sym (same_heads b i no_op))
    (subst (AreKnown (heads_in b)) (sym (same relationship_of b i no_line)) all)

known_step : (b : List Item) (i : Item) → IsClean b → Never (IsFaultOf b i) → AreKnown (heads_in b) (relationships_in b)
    → AreKnown (heads_in (b ++ i ∷ [])) (relationships_in (b ++ i ∷ []))
known_step b (microop m) clean never all = λ r c.
    let old = all r (subst (λ (rs : List Relationship). Contains rs r) (same relationship_of b (microop m) refl) c) in
    let s = place_in-append (heads_in b) (m.head ∷ []) r.source old.0 in
    let t = place_in-append (heads_in b) (m.head ∷ []) r.target old.1 in
    let n = length-append (heads_in b) (m.head ∷ []) in
    subst (λ (hs : List Head). (place_in hs r.source < length hs) × (place_in hs r.target < length hs)) (sym (added_head b m))
    (omega (arith, s, n, old.0), omega (arith, t, n, old.1))
known_step b (relationship q) clean never all = λ r c.
    let hs = heads_in b in
    subst (λ (xs : List Head). (place_in xs r.source < length xs) × (place_in xs r.target < length xs)) (sym (same_heads b (relationship q) refl))
    (elim (Contains-push_cases (relationships_in b) q
    r (subst (λ (rs : List Relationship). Contains rs r) (added relationship_of b (relationship q) q refl) c)) [
      | inl d ↦ all r d
      | inr e ↦ subst (λ (x : Relationship). (place_in hs x.source < length hs) × (place_in hs x.target < length hs)) e (
        known hs q.source (never-first (Unknown hs q.source) (Unknown hs q.target) never),
        known hs q.target (never-others (Unknown hs q.source) (Unknown hs q.target) never),
      )
    ])
known_step b (initial v) clean never all = known_same b (initial v) refl refl all
known_step b (final v) clean never all = known_same b (final v) refl refl all
known_step b (permitted at) clean never all = known_same b (permitted at) refl refl all
known_step b (forbidden at) clean never all = known_same b (forbidden at) refl refl all

all_known : (items : List Item) → IsClean items → AreKnown (heads_in items) (relationships_in items)
all_known = each_clean (λ items. AreKnown (heads_in items) (relationships_in items)) (λ r c. let k = c.1 in absurd (omega arith)) known_step

pub dependencies_within : (items : List Item) → IsClean items
    → AreWithin (length (heads_in items)) (map (dependency_of (heads_in items)) (relationships_in items))
dependencies_within items clean k d at =
    let (r, here, is) = mapped_get (dependency_of (heads_in items)) (relationships_in items) k d at in
    let ends = all_known items clean r (contains-get (relationships_in items) k r here) in
    subst (λ (x : Dependency). (x.source < length (heads_in items)) × (x.target < length (heads_in items))) is ends
