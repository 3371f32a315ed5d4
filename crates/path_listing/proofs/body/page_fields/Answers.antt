use Rattle.std.proofs.Common.{◌≡◌, List, true, slice_get, ap, sym, subst, ◌∙◌}
use Rattle.path_text.specs.Tokens.{is_on_page}
use Rattle.path_order.specs.PagesBelow.{last_of}
use Rattle.path_listing.specs.declared.rows.Row.{Row}
use Rattle.path_listing.specs.Listed.{paths_in}
use Rattle.path_listing.proofs.BodyLemmas.{last_on_page}
use Rattle.path_listing.proofs.body.page_fields.Goals as goal

pub token_of-requires : goal.token_of-requires
token_of-requires c = record {
  page = subst (λ p. is_on_page (slice_get c.args.dir.now 0) p ≡ true) (sym (c.in_ok-last.ensures ∙ ap (λ (l : List Row). last_of c.args.dir.now (paths_in c.args.dir.now l)) c.as_slice.ensures.value))
      (last_on_page c.args.dir.now c.args.page.now.rows.items c.requires.path);
}
