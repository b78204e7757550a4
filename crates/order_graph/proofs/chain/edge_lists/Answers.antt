use Rattle.std.proofs.{Common.{◌≡◌, ◌∙◌, List, ℕ, length, ap, subst, arith}, lemmas.List.{with_items_is}}
use Rattle.order_graph.{specs.Levels.{AreLists}, proofs.OnList.{lists_more, same_read}}
use Rattle.order_graph.proofs.chain.edge_lists.Goals as goal

pub put_on_list-requires-clause-room : goal.put_on_list-requires-clause-room
put_on_list-requires-clause-room c =
    let size = c.loop-literal.invariant.lists.links_all in let room = c.loop-literal.invariant.room in let inside = c.loop-literal-test.true in
    omega (arith, c.loop-literal.links.ok.0)

pub put_on_list-requires-clause-below : goal.put_on_list-requires-clause-below
put_on_list-requires-clause-below c =
    let size : length c.deref_mut.result.now ≡ c.args.nodes = ap length c.deref_mut.ensures.value ∙ c.loop-literal.invariant.lists.heads_all in
    rw size (c.requires c.loop-literal.literal-index _ c.loop-literal-test.true)

pub loop-literal-preserved : goal.loop-literal-preserved
loop-literal-preserved c =
    let ls = c.args.literals.now in let k = c.loop-literal.literal-index in
    let new : List ℕ = c.put_on_list.new.heads in
    let size : length new ≡ c.loop-literal.heads.len = c.put_on_list.auto.heads ∙ c.deref_mut.ensures.len in
    let listed = rw c.deref_mut.ensures.value at c.put_on_list.ensures.listed in
    let kept = c.loop-literal.invariant in
    record {
      lists = rw (with_items_is c.loop-literal.heads new size)
          (lists_more ls c.args.nodes k c.loop-literal.heads.items c.loop-literal.links.items new c.put_on_list.new.links.items _ kept.lists
          (λ d. same_read ls k d _ c.loop-literal-test.true) (c.requires k _ c.loop-literal-test.true) listed);
      room = rw c.put_on_list.ensures.room kept.room;
    }

pub returns : goal.returns
returns c =
    let ls = c.args.literals.now in
    let P : ℕ → Type 0 = λ k. AreLists ls c.args.nodes k c.loop-literal.heads.items c.loop-literal.links.items in
    let ended = c.loop-literal-test.false in
    let all : c.loop-literal.literal-index ≡ length ls = (let low = c.loop-literal.auto.literal-index-end in omega arith) in
    subst P all c.loop-literal.invariant.lists
