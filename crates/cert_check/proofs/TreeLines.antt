-- The lines of a refutation of either version: of no two refutations, and what the last one is.
use Rattle.std.proofs.Common.{◌≡◌, List, [], ◌∷◌, ◌++◌, map, refl, sym, ◌∙◌, ap}
use Rattle.pc_common.specs.{World.{Node}, Steps.{Step}, Lines.{Line, version_two, step, end}}
use Rattle.pc_ground.specs.declared.version.Version.{Version, TheVariants.{One, Two}}
use Rattle.cert_check.{specs.Certificates.{tree_lines}, proofs.Lasts.{last_map, map_same, map_snoc, snoc_some}}

same_step_line : (r s : Step Node) → step r ≡ step s → r ≡ s
same_step_line r s e = cc

no_step : (s : Step Node) → version_two ≡ step s → ⊥
no_step s e = cc

steps_same : (rs ss : List (Step Node)) → map step rs ≡ map step ss → rs ≡ ss
steps_same rs ss e = map_same step same_step_line rs ss e

-- the line of version 2 is no step's, so lines are of one version
apart : (rs ss : List (Step Node)) → map step rs ≡ version_two ∷ map step ss → ⊥
apart [] ss e = cc
apart (r ∷ rs) ss e = (let first : step r ≡ version_two = cc in no_step r (sym first))

pub trees_same : (v w : Version) (rs ss : List (Step Node)) → tree_lines v rs ≡ tree_lines w ss → (v ≡ w) × (rs ≡ ss)
trees_same One One rs ss e = (refl, steps_same rs ss e)
trees_same One Two rs ss e = absurd (apart rs ss e)
trees_same Two One rs ss e = absurd (apart ss rs (sym e))
trees_same Two Two rs ss e = (let rest : map step rs ≡ map step ss = cc in (refl, steps_same rs ss rest))

-- what the last line is, and the lines before it
pub data LastOfTree (v : Version) (steps : List (Step Node)) (before : List Line) (last : Line) : Type 0 where
  a_version : v ≡ Two → steps ≡ [] → before ≡ [] → last ≡ version_two → LastOfTree v steps before last
  a_step : (ss : List (Step Node)) (s : Step Node) → steps ≡ ss ++ s ∷ [] → before ≡ tree_lines v ss → last ≡ step s
      → LastOfTree v steps before last

pub last_tree : (v : Version) (steps : List (Step Node)) (before : List Line) (last : Line) → tree_lines v steps ≡ before ++ last ∷ []
    → LastOfTree v steps before last
last_tree One steps before last e = (let m = last_map step steps before last e in a_step m.0 m.1 m.2 (sym m.3) (sym m.4))
last_tree Two [] [] last e = (let same : last ≡ version_two = cc in a_version refl refl refl same)
last_tree Two [] (b ∷ before) last e = (let rest : before ++ last ∷ [] ≡ [] = cc in absurd (snoc_some before last rest))
last_tree Two (r ∷ rs) [] last e = cc
last_tree Two (r ∷ rs) (b ∷ before) last e =
    let first : b ≡ version_two = cc in
    let rest : map step (r ∷ rs) ≡ before ++ last ∷ [] = cc in
    let m = last_map step (r ∷ rs) before last rest in
    a_step m.0 m.1 m.2 (ap (λ (l : Line). l ∷ before) first ∙ ap (λ (ls : List Line). version_two ∷ ls) (sym m.3)) (sym m.4)

-- no refutation's lines end with a certificate's last line
pub tree_end : (v : Version) (steps : List (Step Node)) (before : List Line) → tree_lines v steps ≡ before ++ end ∷ [] → ⊥
tree_end v steps before e = go (last_tree v steps before end e)
  where
    go : LastOfTree v steps before end → ⊥
    go (a_version two none no_more at) = cc
    go (a_step ss s is front at) = cc

-- a refutation with one line more, by what that line is
pub data NextOfTree (v : Version) (steps : List (Step Node)) (w : Version) (others : List (Step Node)) (last : Line) : Type 0 where
  next_version : w ≡ Two → others ≡ [] → v ≡ One → steps ≡ [] → last ≡ version_two → NextOfTree v steps w others last
  next_step : (s : Step Node) → v ≡ w → others ≡ steps ++ s ∷ [] → last ≡ step s → NextOfTree v steps w others last

none_before : (v : Version) (steps : List (Step Node)) → tree_lines v steps ≡ [] → (v ≡ One) × (steps ≡ [])
none_before One [] e = (refl, refl)
none_before One (s ∷ ss) e = cc
none_before Two ss e = cc

pub next_tree : (v : Version) (steps : List (Step Node)) (w : Version) (others : List (Step Node)) (last : Line)
    → tree_lines w others ≡ tree_lines v steps ++ last ∷ [] → NextOfTree v steps w others last
next_tree v steps w others last e = go (last_tree w others (tree_lines v steps) last e)
  where
    go : LastOfTree w others (tree_lines v steps) last → NextOfTree v steps w others last
    go (a_version two none before at) = (let both = none_before v steps before in next_version two none both.0 both.1 at)
    go (a_step ss s is before at) =
        let both = trees_same v w steps ss before in
        next_step s both.0 (is ∙ ap (λ (t : List (Step Node)). t ++ s ∷ []) (sym both.1)) at

-- a step more is a line more
pub tree_snoc : (v : Version) (steps : List (Step Node)) (s : Step Node) → tree_lines v steps ++ step s ∷ [] ≡ tree_lines v (steps ++ s ∷ [])
tree_snoc One steps s = map_snoc step steps s
tree_snoc Two steps s = ap (λ (t : List Line). version_two ∷ t) (map_snoc step steps s)
