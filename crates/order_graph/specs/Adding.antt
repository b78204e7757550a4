-- What came of a literal that was asserted.
use Rattle.std.specs.Prelude.{ℕ, ◌≡◌, [], ◌∷◌, ◌++◌}
use Rattle.pc_ground.specs.declared.literal.Literal.{Literal}
use Rattle.order_graph.specs.{State.{Graph, IsPushed}, Clashes.{IsClash, IsConsistentWith, ClashesWith}, declared.clash.Added.{Added}}
use Rattle.order_graph.specs.declared.clash.Added.TheVariants.{Kept, Clash}

-- it is the last literal, or the literals with it have this clash and the graph is as it was
abbrev pub IsAdded : Graph → Literal ℕ → Graph → Added → Type 0
IsAdded old l new Kept = IsPushed old l new × IsConsistentWith old.literals l
IsAdded old l new (Clash k) = (new ≡ old) × IsClash (old.literals ++ l ∷ []) k × ClashesWith old.literals l
