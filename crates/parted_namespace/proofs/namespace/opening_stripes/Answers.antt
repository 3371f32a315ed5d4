use Rattle.std.proofs.Common.{◌≡◌, ◌<◌, ◌≤◌, [], ◌∷◌, ◌++◌, map, lit≤, ap, ◌∙◌, arith}
use Rattle.parted_namespace.specs.Opening.{bare_stripe, opening_below}
use Rattle.parted_namespace.proofs.OpeningLemmas.{first_opening, next_opening}
use Rattle.parted_namespace.proofs.namespace.opening_stripes.Goals as goal

pub loop-stripe-init : goal.loop-stripe-init
loop-stripe-init c = (
  ap (map bare_stripe) (c.in_ok-push.ensures.items ∙ ap (λ l. l ++ c.in_ok-first_stripe.field-0 ∷ []) c.in_ok-stripes.ensures.items)
      ∙ first_opening c.in_ok-first_stripe.field-0 c.in_ok-first_stripe.ensures.stripe c.in_ok-first_stripe.ensures.part,
  lit≤ tt,
  lit≤ tt,
)

pub loop-stripe-preserved : goal.loop-stripe-preserved
loop-stripe-preserved c =
    let test : c.loop-stripe.stripe < 64 = c.loop-stripe-test.true in (
      ap (map bare_stripe) c.in_ok-push-2.ensures.items ∙ next_opening c.loop-stripe.stripe c.loop-stripe.stripes.items c.new.result c.loop-stripe.invariant.1 c.loop-stripe.invariant.0 c.new.ensures,
      omega (arith, test),
      omega (arith, test),
    )

pub returns : goal.returns
returns c =
    let test : 64 ≤ c.loop-stripe.stripe = c.loop-stripe-test.false in
    c.loop-stripe.invariant.0 ∙ (let whole : c.loop-stripe.stripe ≡ 64 = omega (arith, test, c.loop-stripe.invariant.2) in ap opening_below whole)
