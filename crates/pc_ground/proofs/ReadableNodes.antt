-- Which node a text is read as.
use Rattle.std.proofs.Common.{◌≡◌, ℕ, ◌<◌, List, [], ◌∷◌, ◌++◌, Option, Some, length, refl, sym, ◌∙◌, ap, arith, get_or, subst}
use Rattle.std.{proofs.lemmas.{Fmt.{decimal_injective}, Option.{slice_get-get_or, slice_get_within}}, specs.{Prelude.{slice_get, codes}, Fmt.{decimal}}}
use Rattle.pc_common.{specs.{Case.{MicroOp}, World.{Node}, Lines.{StageName, Names, op_text, stage_name, node_text}}, proofs.Nodes.{node_parts}}
use Rattle.pc_ground.specs.{declared.node_words.NodeWords.{NodeWords}, Stages.{AreStages}, NodeForm.{IsNodeForm, IsNodeIn, AreReadable}}
use Rattle.pc_ground.{specs.NodeWords.{IsStage, AreSmall, AreWords, NamesNode, AreKept}, proofs.Cuts.{Cuts, same_cuts, words_cuts, form_grouped, decimal_lacks}}
use Rattle.pc_ground.proofs.StageWalks.{some_same, stage_name_is, stage_from_number, number_from_stage}

-- a node's text, by the parts of its micro-op
pub node_text_is : (names : Names) (a : Node) (o : MicroOp) → slice_get names.ops a.op ≡ Some o
    → node_text names a ≡ decimal o.g ++ codes "." ++ decimal o.n ++ codes "@" ++ decimal a.core ++ codes ":" ++ stage_name names.stages a.stage
node_text_is names a o at = ap (λ (m : Option MicroOp). op_text m ++ codes "@" ++ decimal a.core ++ codes ":" ++ stage_name names.stages a.stage) at

pub op_at : (names : Names) (a : Node) → IsNodeIn names a → (o : MicroOp) × (slice_get names.ops a.op ≡ Some o)
op_at names a h = found names.ops a.op h.op_of_test
  where
    found : (ops : List MicroOp) (k : ℕ) → k < length ops → (o : MicroOp) × (slice_get ops k ≡ Some o)
    found [] k inside = absurd (omega (arith, inside))
    found (o ∷ os) k inside = (get_or (o ∷ os) k o, slice_get-get_or (o ∷ os) k o inside)

-- what words name is what they spell
pub named_text : (names : Names) (word : List ℕ) (w : NodeWords) (a : Node) → AreStages names.stages → AreWords word w → NamesNode names w a
    → word ≡ node_text names a
named_text names word w a stages words h =
    let (o, at, g, n) = h.op in
    words.is
    ∙ ap (λ k. decimal k ++ codes "." ++ decimal w.n ++ codes "@" ++ decimal w.core ++ codes ":" ++ w.stage.now) (sym g)
    ∙ ap (λ k. decimal o.g ++ codes "." ++ decimal k ++ codes "@" ++ decimal w.core ++ codes ":" ++ w.stage.now) (sym n)
    ∙ ap (λ k. decimal o.g ++ codes "." ++ decimal o.n ++ codes "@" ++ decimal k ++ codes ":" ++ w.stage.now) (sym h.core)
    ∙ ap (λ name. decimal o.g ++ codes "." ++ decimal o.n ++ codes "@" ++ decimal a.core ++ codes ":" ++ name)
    (sym (stage_name_is names.stages stages a.stage w.stage.now h.stage))
    ∙ sym (node_text_is names a o at)

pub named_in : (names : Names) (w : NodeWords) (a : Node) → a.core < 64 → NamesNode names w a → IsNodeIn names a
named_in names w a core h = record {
  op_of_test = slice_get_within names.ops a.op h.op.0 h.op.1;
  core_in_range = core;
  stage_of_model = number_from_stage names.stages a.stage w.stage.now h.stage;
}

-- what words spell is what they name
pub named_by : (names : Names) (word : List ℕ) (w : NodeWords) (a : Node) → AreSmall names.ops → AreStages names.stages → AreWords word w → IsNodeIn names a
    → word ≡ node_text names a → NamesNode names w a
named_by names word w a small stages words inside is =
    let o = op_at names a inside in
    let bits = small a.op o.0 o.1 in
    let cuts : Cuts word (decimal o.0.g) (decimal o.0.n) (decimal a.core) (stage_name names.stages a.stage) = record {
      g_lacks = decimal_lacks 46 (decimal o.0.g) refl (o.0.g, (bits.0, refl));
      n_lacks = decimal_lacks 64 (decimal o.0.n) refl (o.0.n, (bits.1, refl));
      core_lacks = decimal_lacks 58 (decimal a.core) refl (a.core, (omega (arith, inside.core_in_range), refl));
      is = is ∙ node_text_is names a o.0 o.1 ∙ form_grouped (decimal o.0.g) (decimal o.0.n) (decimal a.core) (stage_name names.stages a.stage);
    } in
    let same = same_cuts cuts (words_cuts words) in
    let named = stage_from_number names.stages a.stage inside.stage_of_model in
    record {
      op = (
        o.0,
        o.1,
        decimal_injective o.0.g w.g (omega (arith, bits.0)) (omega (arith, words.g)) same.0,
        decimal_injective o.0.n w.n
            (omega (arith, bits.1)) (omega (arith, words.n)) same.1,
      );
      core = decimal_injective a.core w.core (omega (arith, inside.core_in_range)) (omega (arith, words.core)) same.2;
      stage = (let P : List ℕ → Type 0 = λ name. IsStage names.stages a.stage name in
          subst P (sym (stage_name_is names.stages stages a.stage named.0 named.1) ∙ same.3) named.1);
    }

-- a name is one stage's
one_stage : (stages : List StageName) → AreStages stages → (m n : ℕ) (name : List ℕ) → IsStage stages m name → IsStage stages n name → m ≡ n
one_stage stages h m n name (j, f) (k, g) =
    let same : j ≡ k = h.one_name j k (m, name) (n, name) f g refl in
    ap (λ t. t.0) (some_same (sym f ∙ ap (λ i. slice_get stages i) same ∙ g))

text_cuts : (names : Names) (a : Node) (h : IsNodeIn names a) → AreSmall names.ops
    → Cuts (node_text names a) (decimal (op_at names a h).0.g) (decimal (op_at names a h).0.n) (decimal a.core) (stage_name names.stages a.stage)
text_cuts names a h small =
    let o = op_at names a h in
    let bits = small a.op o.0 o.1 in
    record {
      g_lacks = decimal_lacks 46 (decimal o.0.g) refl (o.0.g, (bits.0, refl));
      n_lacks = decimal_lacks 64 (decimal o.0.n) refl (o.0.n, (bits.1, refl));
      core_lacks = decimal_lacks 58 (decimal a.core) refl (a.core, (omega (arith, h.core_in_range), refl));
      is = node_text_is names a o.0 o.1 ∙ form_grouped (decimal o.0.g) (decimal o.0.n) (decimal a.core) (stage_name names.stages a.stage);
    }

stage_known : (names : Names) (a : Node) → AreStages names.stages → IsNodeIn names a → IsStage names.stages a.stage (stage_name names.stages a.stage)
stage_known names a stages h =
    let named = stage_from_number names.stages a.stage h.stage_of_model in
    let P : List ℕ → Type 0 = λ name. IsStage names.stages a.stage name in
    subst P (sym (stage_name_is names.stages stages a.stage named.0 named.1)) named.1

pub readable : (names : Names) → AreKept names → AreReadable names
readable names kept = record {
  form = λ a h. form a h;
  apart = λ a b f g e. apart a b f g e;
}
  where
    form : (a : Node) → IsNodeIn names a → IsNodeForm (node_text names a)
    form a h =
        let o = op_at names a h in
        let bits = kept.small a.op o.0 o.1 in
        let stage = stage_known names a kept.stages h in
        record {
          g = decimal o.0.g;
          n = decimal o.0.n;
          core = decimal a.core;
          stage = stage_name names.stages a.stage;
          g_number = (o.0.g, (bits.0, refl));
          n_number = (o.0.n, (bits.1, refl));
          core_number = (a.core, (omega (arith, h.core_in_range), refl));
          stage_name = kept.stages.names stage.0 (a.stage, stage_name names.stages a.stage) stage.1;
          is = node_text_is names a o.0 o.1;
        }

    apart : (a b : Node) → IsNodeIn names a → IsNodeIn names b → node_text names a ≡ node_text names b → a ≡ b
    apart a b f g e =
        let o = op_at names a f in
        let p = op_at names b g in
        let bits = kept.small a.op o.0 o.1 in
        let others = kept.small b.op p.0 p.1 in
        let first = text_cuts names a f kept.small in
        let second : Cuts (node_text names a) (decimal p.0.g) (decimal p.0.n) (decimal b.core) (stage_name names.stages b.stage) = rw e
        (text_cuts names b g kept.small) in
        let same = same_cuts first second in
        let here = stage_known names a kept.stages f in
        let there = stage_known names b kept.stages g in
        node_parts a b
        (kept.kept.once a.op b.op o.0 p.0 o.1 p.1
        (decimal_injective o.0.g p.0.g (omega (arith, bits.0)) (omega (arith, others.0)) same.0)
        (decimal_injective o.0.n p.0.n (omega (arith, bits.1)) (omega (arith, others.1)) same.1))
        (decimal_injective a.core b.core (omega (arith, f.core_in_range)) (omega (arith, g.core_in_range)) same.2)
        (let P : List ℕ → Type 0 = λ name. IsStage names.stages b.stage name in
        one_stage names.stages kept.stages a.stage b.stage (stage_name names.stages a.stage) here (subst P (sym same.3) there))

pub formed : (names : Names) (word : List ℕ) (a : Node) → AreKept names → IsNodeIn names a → word ≡ node_text names a → IsNodeForm word
formed names word a kept inside is = (let P : List ℕ → Type 0 = λ w. IsNodeForm w in subst P (sym is) ((readable names kept).form a inside))
