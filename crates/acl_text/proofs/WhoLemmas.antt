-- The printed order is total, and tells any two apart.
use Rattle.std.proofs.Common.{◌≡◌, ℕ, ◌==◌, List, cond, refl, sym, ap, ◌∙◌}
use Rattle.std.specs.Cmp.{IsTotalOrder}
use Rattle.std.specs.Cmp.Lexicographic.{slice_cmp}
use Rattle.std.specs.Ordering.{nat_cmp}
use Rattle.std.specs.FinMap.{IsAntisymmetric}
use Rattle.std.proofs.lemmas.Cmp.{then_total, on_total, nat_cmp_total, nat_list_cmp_total}
use Rattle.std.proofs.lemmas.Map.Lookups.{exact_pairs, exact_unsigned, exact_bytes}
use Rattle.acl_text.specs.declared.who.Who.{Who}
use Rattle.acl_text.specs.declared.who.Who.TheVariants.{Owner, User, OwningGroup, Group, Mask, Other}
use Rattle.acl_text.specs.Whos.{rank, id_in, who_cmp}

pub who_cmp_total : IsTotalOrder who_cmp
who_cmp_total = then_total (on_total rank nat_cmp_total) (on_total id_in nat_list_cmp_total)

-- the one of a rank and an id
of_parts : ℕ × List ℕ → Who
of_parts (r, id) =
    cond (r == 0) Owner (cond (r == 1) (User id) (cond (r == 2) OwningGroup (cond (r == 3) (Group id) (cond (r == 4) Mask Other))))

of_parts-rank : (w : Who) → of_parts (rank w, id_in w) ≡ w
unfolding of_parts
of_parts-rank Owner = refl
of_parts-rank (User id) = refl
of_parts-rank OwningGroup = refl
of_parts-rank (Group id) = refl
of_parts-rank Mask = refl
of_parts-rank Other = refl

pub who_cmp-IsAntisymmetric : IsAntisymmetric who_cmp
who_cmp-IsAntisymmetric a b e =
    sym (of_parts-rank a) ∙ ap of_parts (exact_pairs nat_cmp (slice_cmp nat_cmp) exact_unsigned exact_bytes (rank a, id_in a) (rank b, id_in b) e) ∙ of_parts-rank b
