-- What a search keeps: after a split, after a side is entered, and after a side's clash.
use Rattle.std.proofs.Common.{◌≡◌, ◌≤◌, ℕ, ◌+◌, Bool, not, List, [], ◌∷◌, ◌++◌, Option, Some, take, drop, reverse, length, refl, sym, ap, ◌∙◌, arith, append_assoc, length-append}
use Rattle.std.proofs.lemmas.List.{append-nil, take_all, take-take, take-append-le, take-append-drop, length-map, length-take, get_or_append_left, reverse-append}
use Rattle.std.proofs.Math.Seq.{take-length, take-append_seam, get_or-append_seam}
use Rattle.std.specs.{Prelude.{slice_index, Contains}, Option.{option_map}, List.{take-map}}
use Rattle.pc_common.specs.{World.{Node}, Steps.{Leaf, Step, split, close}}
use Rattle.pc_ground.specs.{Tree.{Tree, either, negation, turned, size_of}, declared.version.Version.{Version, TheVariants.{One, Two}}}
use Rattle.pc_ground.specs.Refutes.{Branch, signed, all_signed, subtree_at, asserted, literals_of, Closes, left_branch, right_branch, IsPartial}
use Rattle.pc_ground.proofs.{Turned.{subtree_denied, size_turned}, FlatRows.{children_either, subtree_size, size_pos}}
use Rattle.order_graph.specs.State.{Graph, IsCut}
use Rattle.solver.specs.{Renamed.{tree_over, renamed_tree, node_at}, Places.{place_signed, asserted_at, side_positions, left_side, right_side, IsSideIn}}
use Rattle.solver.specs.{Opens.{positions, waiting, IsLater, AreLater, opens, KeepsState, state_of, IsFurther}, declared.tree.place.Place.{Place}}
use Rattle.solver.{specs.declared.search.later.Later.{Later}, proofs.Runs.{runs_split, runs_close}}
use Rattle.solver.proofs.{RenamedTree.{part_renamed, negation_renamed, asserted_renamed, size_renamed}, HasAsserted.{asserted_is, literals_more}}
use Rattle.solver.proofs.AreTruths.{denied_in}

-- waiting branches look at a first part alone
pub waiting_more : (t : Tree ℕ) (ps qs : Branch) (marks : List ℕ) (ls : List Later) → AreLater t ps marks ls → waiting t (ps ++ qs) ls ≡ waiting t ps ls
waiting_more t ps qs marks [] h = refl
waiting_more t ps qs marks (l ∷ ls) h = rw (take-append-le l.count ps qs h.0.count) refl

pub later_more : (t : Tree ℕ) (ps qs : Branch) (marks : List ℕ) (ls : List Later) → AreLater t ps marks ls → AreLater t (ps ++ qs) marks ls
later_more t ps qs marks [] h = tt
later_more t ps qs marks (l ∷ ls) h =
    let same = take-append-le l.count ps qs h.0.count in (
      record { count = omega (arith, h.0.count, length-append ps qs); live = h.0.live; literals = rw same h.0.literals; side = h.0.side },
      rw same h.1,
    )

marks_more : (t : Tree ℕ) (ps : Branch) (marks more : List ℕ) (ls : List Later) → AreLater t ps marks ls → AreLater t ps (marks ++ more) ls
marks_more t ps marks more [] h = tt
marks_more t ps marks more (l ∷ ls) h =
    let same : take (l.mark + 1) (marks ++ more) ≡ take (l.mark + 1) marks =
    take-append-le (l.mark + 1) marks more (omega (arith, h.0.live)) in (
      record {
        count = h.0.count;
        live = omega (arith, h.0.live, length-append marks more);
        literals = get_or_append_left marks more 0 l.mark h.0.live ∙ h.0.literals;
        side = h.0.side;
      },
      rw same h.1,
    )

-- what the right branch of a split asserts, over numbers
right_is : (v : Version) (t : Tree ℕ) (ps : Branch) (n : Bool) (p : ℕ) (a b : Tree ℕ)
    → subtree_at (turned n t) (p + 1) ≡ Some a → subtree_at (turned n t) (p + 1 + size_of a) ≡ Some b
    → ps ++ side_positions t (right_side v (signed n p) (size_of a)) ≡ right_branch v ps n p a b
right_is One t ps n p a b left right = ap (λ qs. ps ++ qs) (asserted_is t n (p + 1 + size_of a) b right)
right_is Two t ps n p a b left right =
    let own = all_signed n (asserted b (p + 1 + size_of a)) in
    ap (λ qs. ps ++ (asserted_at t (not n) (p + 1) ++ qs)) (asserted_is t n (p + 1 + size_of a) b right)
    ∙ ap (λ qs. ps ++ (qs ++ own)) (asserted_is t (not n) (p + 1) (negation a) (subtree_denied t n (p + 1) a left))
    ∙ sym (append_assoc ps (all_signed (not n) (asserted (negation a) (p + 1))) own)

-- the branches once the Or is split
pub opens_split : (v : Version) (t : Tree ℕ) (aps : List Place) (ls ms : List Later) (l : Later) (n : Bool) (p : ℕ) (a b : Tree ℕ)
    → subtree_at (turned n t) p ≡ Some (either a b) → l.count ≡ length aps → l.side ≡ right_side v (signed n p) (size_of a) → ms ≡ ls ++ l ∷ []
    → opens t (positions aps ++ side_positions t (left_side (signed n p))) aps ms
    ≡ left_branch (positions aps) n p a ∷ right_branch v (positions aps) n p a b ∷ waiting t (positions aps) (reverse ls)
opens_split v t aps ls ms l n p a b at count side pushed =
    let ps = positions aps in
    let children = children_either (turned n t) p a b at in
    let whole : take l.count ps ≡ ps = ap (λ k. take k ps) (count ∙ sym (length-map aps place_signed)) ∙ take-length ps in
    let right : ps ++ side_positions t l.side ≡ right_branch v ps n p a b =
    ap (λ z. ps ++ side_positions t z) side ∙ right_is v t ps n p a b children.0 children.1 in
    ap (λ w. (ps ++ side_positions t (left_side (signed n p))) ∷ waiting t ps w) (ap reverse pushed ∙ reverse-append ls (l ∷ []))
    ∙ ap (λ qs. (ps ++ qs) ∷ waiting t ps (l ∷ reverse ls)) (asserted_is t n (p + 1) a children.0)
    ∙ ap (λ rs. left_branch ps n p a ∷ (rs ++ side_positions t l.side) ∷ waiting t rs (reverse ls)) whole
    ∙ ap (λ r. left_branch ps n p a ∷ r ∷ waiting t ps (reverse ls)) right

-- and over nodes
right_over : (nodes : List Node) (v : Version) (ps : Branch) (n : Bool) (p : ℕ) (a b : Tree ℕ)
    → right_branch v ps n p (tree_over nodes a) (tree_over nodes b) ≡ right_branch v ps n p a b
right_over nodes One ps n p a b =
    let y = tree_over nodes b in
    ap (λ m. ps ++ all_signed n (asserted y (p + 1 + m))) (size_renamed (node_at nodes) a)
    ∙ ap (λ qs. ps ++ all_signed n qs) (asserted_renamed (node_at nodes) b (p + 1 + size_of a))
right_over nodes Two ps n p a b =
    let y = tree_over nodes b in
    let denied = negation (tree_over nodes a) in
    ap (λ m. (ps ++ all_signed (not n) (asserted denied (p + 1))) ++ all_signed n (asserted y (p + 1 + m))) (size_renamed (node_at nodes) a)
    ∙ ap (λ qs. (ps ++ all_signed (not n) (asserted denied (p + 1))) ++ all_signed n qs) (asserted_renamed (node_at nodes) b (p + 1 + size_of a))
    ∙ ap (λ qs. (ps ++ all_signed (not n) qs) ++ all_signed n (asserted b (p + 1 + size_of a)))
    (ap (λ x. asserted x (p + 1)) (negation_renamed (node_at nodes) a) ∙ asserted_renamed (node_at nodes) (negation a) (p + 1))

-- the Or is split: its left side is next, and the right side waits
pub split_kept : (v : Version) (nodes : List Node) (t : Tree ℕ) (g h : Graph) (aps : List Place) (ls ms : List Later)
    (ss us : List (Step Node)) (l : Later) (n : Bool) (p : ℕ) (a b : Tree ℕ)
    → KeepsState v (state_of nodes t g aps ls ss) [] → Contains (positions aps) (signed n p) → subtree_at (turned n t) p ≡ Some (either a b)
    → h.literals ≡ g.literals → h.nodes ≡ g.nodes → h.marks ≡ g.marks ++ length g.literals ∷ []
    → l.count ≡ length aps → l.mark ≡ length g.marks → l.side ≡ right_side v (signed n p) (size_of a)
    → ms ≡ ls ++ l ∷ [] → us ≡ ss ++ split n p ∷ [] → KeepsState v (state_of nodes t h aps ms us) (side_positions t (left_side (signed n p)))
split_kept v nodes t g h aps ls ms ss us l n p a b kept on at same_literals same_nodes marks count mark side pushed steps =
    let ps = positions aps in
    let T = tree_over nodes t in
    let children = children_either (turned n t) p a b at in
    let left_size = subtree_size (turned n t) (p + 1) a children.0 in
    let right_size = subtree_size (turned n t) (p + 1 + size_of a) b children.1 in
    let turned_size = size_turned n t in
    let reversed : reverse ms ≡ l ∷ reverse ls = ap reverse pushed ∙ reverse-append ls (l ∷ []) in
    let length_ps : length ps ≡ length aps = length-map aps place_signed in
    let whole : take l.count ps ≡ ps = ap (λ k. take k ps) (count ∙ sym length_ps) ∙ take-length ps in
    let all_marks : take (l.mark + 1) h.marks ≡ g.marks ++ length g.literals ∷ [] =
    ap (λ k. take (k + 1) h.marks) mark ∙ ap (take (length g.marks + 1)) marks
    ∙ take_all _ (g.marks ++ length g.literals ∷ []) (omega (arith, length-append g.marks (length g.literals ∷ []))) in
    let inside : IsSideIn t (right_side v (signed n p) (size_of a)) =
    (omega (arith, right_size, size_pos b, turned_size), denied_in v t (p + 1) (omega (arith, left_size, size_pos a, turned_size))) in
    let first : IsLater t ps h.marks l = record {
      count = omega (arith, count, length_ps);
      live = omega (arith, mark, ap length marks, length-append g.marks (length g.literals ∷ []));
      literals = ap (slice_index h.marks) mark ∙ ap (λ xs. slice_index xs (length g.marks)) marks ∙ get_or-append_seam g.marks (length g.literals) [] 0
          ∙ ap length kept.literals ∙ ap (λ rs. length (literals_of t rs)) (sym whole);
      side = rw side inside;
    } in
    let x = tree_over nodes a in
    let y = tree_over nodes b in
    let here = ps ++ side_positions t (left_side (signed n p)) in
    let run = rw (append-nil ps) at kept.partial in
    let over = part_renamed (node_at nodes) t (signed n p) ∙ ap (λ (o : Option (Tree ℕ)). option_map (renamed_tree (node_at nodes)) o) at in
    let next = runs_split v T ss ps (waiting t ps (reverse ls)) n p x y run on over in
    let split_over : left_branch ps n p x ∷ right_branch v ps n p x y ∷ waiting t ps (reverse ls) ≡ opens t here aps ms =
    ap (λ qs. (ps ++ all_signed n qs) ∷ right_branch v ps n p x y ∷ waiting t ps (reverse ls)) (asserted_renamed (node_at nodes) a (p + 1))
    ∙ ap (λ r. left_branch ps n p a ∷ r ∷ waiting t ps (reverse ls)) (right_over nodes v ps n p a b)
    ∙ sym (opens_split v t aps ls ms l n p a b at count side pushed) in record {
      literals = same_literals ∙ kept.literals;
      all_nodes = same_nodes ∙ kept.all_nodes;
      marks = omega (arith, kept.marks, ap length marks, length-append g.marks (length g.literals ∷ []), ap length steps, length-append ss (split n p ∷ []));
      waits = rw reversed (first, rw (whole, all_marks) (marks_more t ps g.marks (length g.literals ∷ []) (reverse ls) kept.waits));
      partial = rw (steps, ← split_over) next;
    }

-- the side is all asserted
pub entered_kept : (v : Version) (nodes : List Node) (t : Tree ℕ) (g h : Graph) (aps bs : List Place) (ls : List Later) (ss : List (Step Node)) (more : Branch)
    → KeepsState v (state_of nodes t g aps ls ss) more → positions bs ≡ positions aps ++ more → h.literals ≡ literals_of t (positions bs) → IsFurther g h
    → KeepsState v (state_of nodes t h bs ls ss) [] × (opens t (positions bs ++ []) bs ls ≡ opens t (positions aps ++ more) aps ls)
entered_kept v nodes t g h aps bs ls ss more kept entered stand further =
    let ps = positions aps in
    let same : waiting t (positions bs) (reverse ls) ≡ waiting t ps (reverse ls) =
    ap (λ qs. waiting t qs (reverse ls)) entered ∙ waiting_more t ps more g.marks (reverse ls) kept.waits in
    let all : opens t (positions bs ++ []) bs ls ≡ opens t (ps ++ more) aps ls =
    ap (λ qs. qs ∷ waiting t (positions bs) (reverse ls)) (append-nil (positions bs) ∙ entered) ∙ ap (λ w. (ps ++ more) ∷ w) same in (
      record {
        literals = stand;
        all_nodes = further.same_nodes ∙ kept.all_nodes;
        marks = omega (arith, kept.marks, ap length further.same_marks);
        waits = rw (further.same_marks, entered) (later_more t ps more g.marks (reverse ls) kept.waits);
        partial = rw all kept.partial;
      },
      all,
    )

take_shorter : {X : Type 0} (k : ℕ) (xs ys : List X) → k ≤ length xs → take (length xs) ys ≡ xs → take k ys ≡ take k xs
take_shorter k xs ys h e = sym (ap (take k) (sym e) ∙ take-take k (length xs) ys h)

take_length : (t : Tree ℕ) (k : ℕ) (ps : Branch) → take (length (literals_of t (take k ps))) (literals_of t ps) ≡ literals_of t (take k ps)
take_length t k ps =
    let front = literals_of t (take k ps) in
    ap (take (length front)) (ap (literals_of t) (sym (take-append-drop k ps)) ∙ literals_more t (take k ps) (drop k ps))
    ∙ take-append_seam front (literals_of t (drop k ps))

-- the side's branch is closed, and the next one is entered
pub closed_kept : (v : Version) (nodes : List Node) (t : Tree ℕ) (g h i : Graph) (aps bs cs : List Place) (ls ms : List Later)
    (ss us : List (Step Node)) (s : Leaf Node) (l : Later) (more : Branch)
    → KeepsState v (state_of nodes t g aps ls ss) more → Closes (tree_over nodes t) (literals_of (tree_over nodes t) (positions aps ++ more)) s
    → us ≡ ss ++ close s ∷ [] → ls ≡ ms ++ l ∷ [] → IsFurther g h → take (length aps) bs ≡ aps
    → IsCut h (slice_index h.marks l.mark) l.mark i → cs ≡ take l.count bs
    → KeepsState v (state_of nodes t i cs ms us) (side_positions t l.side)
    × (opens t (positions aps ++ more) aps ls ≡ (positions aps ++ more) ∷ opens t (positions cs ++ side_positions t l.side) cs ms)
closed_kept v nodes t g h i aps bs cs ls ms ss us s l more kept closes steps popped further extends cut cut_positions =
    let ps = positions aps in
    let T = tree_over nodes t in
    let reversed : reverse ls ≡ l ∷ reverse ms = ap reverse popped ∙ reverse-append ms (l ∷ []) in
    let waits : AreLater t ps g.marks (l ∷ reverse ms) = rw reversed at kept.waits in
    let here = waits.0 in
    let length_ps : length ps ≡ length aps = length-map aps place_signed in
    let short : cs ≡ take l.count aps = cut_positions ∙ take_shorter l.count aps bs (omega (arith, here.count, length_ps)) extends in
    let qs_is : positions cs ≡ take l.count ps = ap positions short ∙ sym (take-map place_signed l.count aps) in
    let index : slice_index h.marks l.mark ≡ length (literals_of t (take l.count ps)) = ap (λ xs. slice_index xs l.mark) further.same_marks ∙ here.literals in
    let within : length (literals_of t (take l.count ps)) ≤ length (literals_of t ps) =
    omega (arith, ap length (take_length t l.count ps), length-take (length (literals_of t (take l.count ps))) (literals_of t ps)) in
    let stand : i.literals ≡ literals_of t (positions cs) =
    cut.literals ∙ ap (λ n. take n h.literals) index
    ∙ take_shorter (length (literals_of t (take l.count ps))) g.literals h.literals (omega (arith, within, ap length kept.literals)) further.literals
    ∙ ap (take (length (literals_of t (take l.count ps)))) kept.literals ∙ take_length t l.count ps ∙ ap (literals_of t) (sym qs_is) in
    let marks : i.marks ≡ take (l.mark + 1) g.marks = cut.marks ∙ ap (take (l.mark + 1)) further.same_marks in
    let tail : (take l.count ps ++ side_positions t l.side) ∷ waiting t (take l.count ps) (reverse ms)
    ≡ opens t (positions cs ++ side_positions t l.side) cs ms =
    ap (λ rs. (rs ++ side_positions t l.side) ∷ waiting t rs (reverse ms)) (sym qs_is) in
    let all : opens t (ps ++ more) aps ls ≡ (ps ++ more) ∷ opens t (positions cs ++ side_positions t l.side) cs ms =
    ap (λ w. (ps ++ more) ∷ waiting t ps w) reversed ∙ ap (λ w. (ps ++ more) ∷ w) tail in
    let run : IsPartial v T ss ((ps ++ more) ∷ opens t (positions cs ++ side_positions t l.side) cs ms) = rw all at kept.partial in
    let closed = runs_close v T ss (ps ++ more) (opens t (positions cs ++ side_positions t l.side) cs ms) s run closes in (
      record {
        literals = stand;
        all_nodes = cut.same_nodes ∙ further.same_nodes ∙ kept.all_nodes;
        marks = omega (arith, kept.marks, ap length marks, length-take (l.mark + 1) g.marks, ap length steps, length-append ss (close s ∷ []));
        waits = rw (marks, qs_is) waits.1;
        partial = rw steps closed;
      },
      all,
    )

-- the side's branch is closed, and none waits
pub closed_all : (v : Version) (nodes : List Node) (t : Tree ℕ) (g : Graph) (aps : List Place) (ls : List Later)
    (ss us : List (Step Node)) (s : Leaf Node) (more : Branch)
    → KeepsState v (state_of nodes t g aps ls ss) more → Closes (tree_over nodes t) (literals_of (tree_over nodes t) (positions aps ++ more)) s
    → us ≡ ss ++ close s ∷ [] → ls ≡ [] → IsPartial v (tree_over nodes t) us []
closed_all v nodes t g aps ls ss us s more kept closes steps none =
    let ps = positions aps ++ more in
    let T = tree_over nodes t in
    rw steps (runs_close v T ss ps [] s (rw none at kept.partial) closes)
