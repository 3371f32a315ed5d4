use Rattle.std.proofs.Common.{option_map, refl, subst}
use Rattle.inode_tree.specs.declared.draft.EvalStop.TheVariants as stop
use Rattle.path_walk.proofs.FindLemmas.{ok_then}
use Rattle.path_walk.proofs.StepLemmas.{same_error}
use Rattle.path_order.specs.Listings.{IsListing}
use Rattle.path_order.specs.Starts.{IsStartAt}
use Rattle.path_order.proofs.ListingLemmas.{listed, listed_none, start_as, walk_of, way_needs, page_needed}
use Rattle.path_order.proofs.listing.list_below.Goals as goal

pub list_from-requires-clause-walk : goal.list_from-requires-clause-walk
list_from-requires-clause-walk g c =
    walk_of (g.V.View.held c.start_at.new.view) (g.V.View.shown c.start_at.new.view) c.args.dir.now (option_map (λ t. t.now) c.args.token) c.in-Ok-Some.start
    (subst (λ o. IsStartAt (g.V.View.held c.start_at.new.view) (g.V.View.shown c.start_at.new.view) c.args.dir.now (option_map (λ t. t.now) c.args.token) o) c.in-Ok-Some.field-0-is c.in-Ok-Some.ensures.start)

pub returns-in-Ok-None-clause-listing : goal.returns-in-Ok-None-clause-listing
returns-in-Ok-None-clause-listing g c =
    listed_none (g.V.View.held c.start_at.new.view) (g.V.View.shown c.start_at.new.view) c.args.dir.now (option_map (λ t. t.now) c.args.token) c.args.max _
    (subst (λ o. IsStartAt (g.V.View.held c.start_at.new.view) (g.V.View.shown c.start_at.new.view) c.args.dir.now (option_map (λ t. t.now) c.args.token) o) c.in-Ok-None.field-0-is c.in-Ok-None.ensures.start)
    c.new.ensures.items c.new-in-Ok-None.ensures.items refl

pub returns-in-Ok-Some-clause-listing : goal.returns-in-Ok-Some-clause-listing
returns-in-Ok-Some-clause-listing g c =
    ok_then c.list_from.result _
    (λ l. IsListing (g.V.View.held c.list_from.new.view) (g.V.View.shown c.list_from.new.view) c.args.dir.now (option_map (λ t. t.now) c.args.token) c.args.max l) c.list_from.ensures.listing
    (λ l from. listed (g.V.View.held c.list_from.new.view) (g.V.View.shown c.start_at.new.view) (g.V.View.shown c.list_from.new.view) c.args.dir.now (option_map (λ t. t.now) c.args.token) c.args.max c.in-Ok-Some.start l
    c.list_from.ensures.on.grows (start_as c.list_from.ensures.on.held_same
    (subst (λ o. IsStartAt (g.V.View.held c.start_at.new.view) (g.V.View.shown c.start_at.new.view) c.args.dir.now (option_map (λ t. t.now) c.args.token) o) c.in-Ok-Some.field-0-is c.in-Ok-Some.ensures.start)) from)

pub returns-in-Err-clause-need : goal.returns-in-Err-clause-need
returns-in-Err-clause-need g c = λ n e.
    way_needs (g.V.View.held c.start_at.new.view) (g.V.View.shown c.start_at.new.view) c.args.dir.now (option_map (λ t. t.now) c.args.token) c.args.max n (c.in-Err.ensures.need n (same_error c.in-Err.stop (stop.Need n) e))

pub returns-in-Ok-Some-clause-need : goal.returns-in-Ok-Some-clause-need
returns-in-Ok-Some-clause-need g c = λ n e.
    page_needed (g.V.View.held c.list_from.new.view) (g.V.View.shown c.start_at.new.view) (g.V.View.shown c.list_from.new.view) c.args.dir.now (option_map (λ t. t.now) c.args.token) c.args.max c.in-Ok-Some.start n
    (start_as c.list_from.ensures.on.held_same
    (subst (λ o. IsStartAt (g.V.View.held c.start_at.new.view) (g.V.View.shown c.start_at.new.view) c.args.dir.now (option_map (λ t. t.now) c.args.token) o) c.in-Ok-Some.field-0-is c.in-Ok-Some.ensures.start))
    (c.list_from.ensures.need n e)
