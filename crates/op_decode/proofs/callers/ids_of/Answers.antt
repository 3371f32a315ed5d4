use Rattle.std.proofs.Common.{◌+◌, [], ◌∷◌, ◌++◌, map, drop, get_or, List, Option, Some, ℕ, sym, ap, ◌∙◌}
use Rattle.namespace_model.specs.declared.code.Code.TheVariants.{InvalidHeaderValue}
use Rattle.op_decode.specs.Callers.{ids_of}
use Rattle.op_decode.specs.Orders.{or_refused}
use Rattle.op_decode.proofs.CallerLemmas.{id_at, id_more, id_none, with_front}
use Rattle.op_decode.proofs.callers.ids_of.Goals as goal

pub returns-in-None : goal.returns-in-None
returns-in-None c =
    ap (λ (o : Option (List (List ℕ))). or_refused InvalidHeaderValue o)
    (sym c.loop-item.invariant
    ∙ id_none c.args.items.now c.loop-item.item-index (record { ref_ptr = (0, 0); now = [] }) c.loop-item.ids.items c.loop-item-test.true
    (id_at _ _ _ _ c.trimmed.ensures c.in_ok-id.ensures c.in-None.is))

pub loop-item-preserved : goal.loop-item-preserved
loop-item-preserved c =
    ap (λ (ids : List (List ℕ)). with_front ids (ids_of (drop (c.loop-item.item-index + 1) (map (λ t. t.now) c.args.items.now)))) c.in_ok-push-in-Some.ensures.items
    ∙ sym (id_more c.args.items.now c.loop-item.item-index (record { ref_ptr = (0, 0); now = [] }) c.loop-item.ids.items c.in-Some.id c.loop-item-test.true
    (id_at _ _ _ _ c.trimmed.ensures c.in_ok-id.ensures c.in-Some.is))
    ∙ c.loop-item.invariant
