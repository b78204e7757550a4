-- Which constant And and Or over trees are.
use Rattle.std.proofs.Common.{◌≡◌, ◌⊎◌, inl, inr, Bool, true, false, List, [], ◌∷◌, map, length, refl, ◌∙◌, ap}
use Rattle.pc_common.{specs.World.{Node}, proofs.Elements.{In}}
use Rattle.pc_ground.specs.{Tree.{Tree, leaf, both, either}, PlainGround.{conjoined, disjoined}}
use Rattle.lifter.specs.{Trees.{joined_tree, joined_trees}, declared.kind.FactKind.{FactKind, TheVariants.{True, Open}}}
use Rattle.lifter.specs.Kinds.{kind_of, joined_kind, decider, neutral, kind_over}

kind_conjoined : (t u : Tree Node) → kind_of (conjoined t u) ≡ joined_kind true (kind_of t) (kind_of u)
kind_conjoined (leaf l) (leaf m) = refl
kind_conjoined (both a b) (leaf m) = refl
kind_conjoined (either a b) (leaf m) = refl
kind_conjoined _ _ = refl

kind_disjoined : (t u : Tree Node) → kind_of (disjoined t u) ≡ joined_kind false (kind_of t) (kind_of u)
kind_disjoined (leaf l) (leaf m) = refl
kind_disjoined (both a b) (leaf m) = refl
kind_disjoined (either a b) (leaf m) = refl
kind_disjoined _ _ = refl

pub kind_joined : (all : Bool) (t u : Tree Node) → kind_of (joined_tree all t u) ≡ joined_kind all (kind_of t) (kind_of u)
kind_joined true t u = kind_conjoined t u
kind_joined false t u = kind_disjoined t u

pub kind_of_none : (all : Bool) → kind_of (joined_trees all []) ≡ neutral all
kind_of_none true = refl
kind_of_none false = refl

pub kind_of_more : (all : Bool) (t : Tree Node) (ts : List (Tree Node))
    → kind_of (joined_trees all (t ∷ ts)) ≡ joined_kind all (kind_of t) (kind_of (joined_trees all ts))
kind_of_more true t ts = kind_conjoined t (joined_trees true ts)
kind_of_more false t ts = kind_disjoined t (joined_trees false ts)

pub decided_first : (all : Bool) (k : FactKind) → joined_kind all (decider all) k ≡ decider all
decided_first true k = refl
decided_first false k = refl

pub decided_second : (all : Bool) (k : FactKind) → joined_kind all k (decider all) ≡ decider all
decided_second true True = refl
decided_second false True = refl
decided_second _ _ = refl

pub neutral_first : (all : Bool) (k : FactKind) → joined_kind all (neutral all) k ≡ k
neutral_first true k = refl
neutral_first false k = refl

pub joined_assoc : (all : Bool) (a b k : FactKind) → joined_kind all (joined_kind all a b) k ≡ joined_kind all a (joined_kind all b k)
joined_assoc true Open Open True = refl
joined_assoc false Open Open True = refl
joined_assoc _ _ _ _ = refl

open_more : (all : Bool) (a k : FactKind) → a ≡ Open → (k ≡ neutral all) ⊎ (k ≡ Open) → joined_kind all a k ≡ Open
open_more true a k e (inl h) = ap (λ x. joined_kind true x k) e ∙ ap (joined_kind true Open) h
open_more false a k e (inl h) = ap (λ x. joined_kind false x k) e ∙ ap (joined_kind false Open) h
open_more true a k e (inr h) = ap (λ x. joined_kind true x k) e ∙ ap (joined_kind true Open) h
open_more false a k e (inr h) = ap (λ x. joined_kind false x k) e ∙ ap (joined_kind false Open) h

kinds_open : {X : Type 0} (all : Bool) (f : X → Tree Node) (xs : List X) → ((x : X) → In x xs → kind_of (f x) ≡ Open)
    → (kind_of (joined_trees all (map f xs)) ≡ neutral all) ⊎ (kind_of (joined_trees all (map f xs)) ≡ Open)
kinds_open all f [] h = inl (kind_of_none all)
kinds_open all f (x ∷ xs) h =
    inr (kind_of_more all (f x) (map f xs)
    ∙ open_more all (kind_of (f x)) (kind_of (joined_trees all (map f xs))) (h x (inl refl)) (kinds_open all f xs (λ y i. h y (inr i))))

-- over members of which none is a constant
pub kind_of_members : {X : Type 0} (all : Bool) (f : X → Tree Node) (xs : List X) → ((x : X) → In x xs → kind_of (f x) ≡ Open)
    → kind_of (joined_trees all (map f xs)) ≡ kind_over all (length xs)
kind_of_members all f [] h = kind_of_none all
kind_of_members all f (x ∷ xs) h =
    kind_of_more all (f x) (map f xs)
    ∙ open_more all (kind_of (f x)) (kind_of (joined_trees all (map f xs))) (h x (inl refl)) (kinds_open all f xs (λ y i. h y (inr i)))
