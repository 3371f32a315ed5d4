use Rattle.std.proofs.Common.{true, option_map, subst}
use Rattle.inode_tree.specs.declared.draft.EvalStop.TheVariants as stop
use Rattle.path_walk.proofs.StepLemmas.{same_error}
use Rattle.path_order.specs.Starts.{IsStartAt}
use Rattle.path_order.proofs.ListingLemmas.{walk_of, start_as}
use Rattle.path_listing.specs.Listed.{IsPage, NeedsPage}
use Rattle.path_listing.proofs.BelowLemmas.{nothing_read, page_read, way_lacks, walk_lacks, ok_both}
use Rattle.path_listing.proofs.below.read_below.Goals as goal

pub read_from-requires-clause-walk : goal.read_from-requires-clause-walk
read_from-requires-clause-walk g c =
    walk_of (g.V.View.held c.start_at.new.view) (g.V.View.shown c.start_at.new.view) c.args.dir.now (option_map (λ t. t.now) c.as_ref.result) c.in-Ok-Some.start
    (subst (λ o. IsStartAt (g.V.View.held c.start_at.new.view) (g.V.View.shown c.start_at.new.view) c.args.dir.now (option_map (λ t. t.now) c.as_ref.result) o) c.in-Ok-Some.field-0-is c.in-Ok-Some.ensures.start)

pub returns-in-Ok-None-clause-page : goal.returns-in-Ok-None-clause-page
returns-in-Ok-None-clause-page g c =
    subst (λ k. IsPage (g.V.View.held c.start_at.new.view) (g.V.View.shown c.start_at.new.view) c.args.dir.now true k c.args.wanted.now.max c.no_page.result) c.as_ref.ensures.value
    (nothing_read (g.V.View.held c.start_at.new.view) (g.V.View.shown c.start_at.new.view) c.args.dir.now true (option_map (λ t. t.now) c.as_ref.result) c.args.wanted.now.max c.no_page.result
    (subst (λ o. IsStartAt (g.V.View.held c.start_at.new.view) (g.V.View.shown c.start_at.new.view) c.args.dir.now (option_map (λ t. t.now) c.as_ref.result) o) c.in-Ok-None.field-0-is c.in-Ok-None.ensures.start)
    c.no_page.ensures.way c.no_page.ensures.rows c.no_page.ensures.more)

pub returns-in-Ok-Some-clause-page : goal.returns-in-Ok-Some-clause-page
returns-in-Ok-Some-clause-page g c =
    ok_both c.read_from.result _ _ (λ page. IsPage (g.V.View.held c.read_from.new.view) (g.V.View.shown c.read_from.new.view) c.args.dir.now true c.args.wanted.now.token.now c.args.wanted.now.max page)
    c.read_from.ensures.way c.read_from.ensures.page
    (λ page way from. subst (λ k. IsPage (g.V.View.held c.read_from.new.view) (g.V.View.shown c.read_from.new.view) c.args.dir.now true k c.args.wanted.now.max page) c.as_ref.ensures.value
    (page_read (g.V.View.held c.read_from.new.view) (g.V.View.shown c.start_at.new.view) (g.V.View.shown c.read_from.new.view) c.args.dir.now (option_map (λ t. t.now) c.as_ref.result) c.args.wanted.now.max c.in-Ok-Some.start page
    c.read_from.ensures.on.grows (start_as c.read_from.ensures.on.held_same
    (subst (λ o. IsStartAt (g.V.View.held c.start_at.new.view) (g.V.View.shown c.start_at.new.view) c.args.dir.now (option_map (λ t. t.now) c.as_ref.result) o) c.in-Ok-Some.field-0-is c.in-Ok-Some.ensures.start)) way from))

pub returns-in-Err-clause-need : goal.returns-in-Err-clause-need
returns-in-Err-clause-need g c = λ n e.
    subst (λ k. NeedsPage (g.V.View.held c.start_at.new.view) (g.V.View.shown c.start_at.new.view) c.args.dir.now true k c.args.wanted.now.max n) c.as_ref.ensures.value
    (way_lacks (g.V.View.held c.start_at.new.view) (g.V.View.shown c.start_at.new.view) c.args.dir.now (option_map (λ t. t.now) c.as_ref.result) c.args.wanted.now.max n (c.in-Err.ensures.need n (same_error c.in-Err.stop (stop.Need n) e)))

pub returns-in-Ok-Some-clause-need : goal.returns-in-Ok-Some-clause-need
returns-in-Ok-Some-clause-need g c = λ n e.
    subst (λ k. NeedsPage (g.V.View.held c.read_from.new.view) (g.V.View.shown c.read_from.new.view) c.args.dir.now true k c.args.wanted.now.max n) c.as_ref.ensures.value
    (walk_lacks (g.V.View.held c.read_from.new.view) (g.V.View.shown c.start_at.new.view) (g.V.View.shown c.read_from.new.view) c.args.dir.now (option_map (λ t. t.now) c.as_ref.result) c.args.wanted.now.max c.in-Ok-Some.start n
    (start_as c.read_from.ensures.on.held_same
    (subst (λ o. IsStartAt (g.V.View.held c.start_at.new.view) (g.V.View.shown c.start_at.new.view) c.args.dir.now (option_map (λ t. t.now) c.as_ref.result) o) c.in-Ok-Some.field-0-is c.in-Ok-Some.ensures.start))
    (c.read_from.ensures.need n e))
