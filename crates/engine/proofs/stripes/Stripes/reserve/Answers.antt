use Rattle.std.proofs.Common.{◌≡◌, sym, ◌∙◌, subst, arith, ap}
use Rattle.parted_namespace.specs.Namespace.{parts_of}
use Rattle.engine.specs.Stripes.{AreStripes, AreSame}
use Rattle.engine.proofs.StripeLemmas.{put_back, long_stripes, same_stripes, same_parts_of}
use Rattle.engine.proofs.stripes.Stripes.reserve.Goals as goal

pub invariant_of-self : goal.invariant_of-self
invariant_of-self c =
    subst AreStripes (sym (put_back c.self.inside.stripes.len c.reserve_written.new.stripes _ (omega (arith, c.as_mut_slice.ensures.len, c.reserve_written.ensures.same.long))))
    (same_stripes c.self.inside.stripes.items c.reserve_written.new.stripes c.self.invariant (subst (λ xs. AreSame xs c.reserve_written.new.stripes) c.as_mut_slice.ensures.value c.reserve_written.ensures.same))

pub returns-clause-parts : goal.returns-clause-parts
returns-clause-parts c =
    ap parts_of (put_back c.self.inside.stripes.len c.reserve_written.new.stripes _ (omega (arith, c.as_mut_slice.ensures.len, c.reserve_written.ensures.same.long)))
    ∙ same_parts_of c.as_mut_slice.result.now c.reserve_written.new.stripes c.reserve_written.ensures.same
    ∙ ap parts_of (let value = c.as_mut_slice.ensures.value in let view = c.self.view_is in let same : c.as_mut_slice.result.now ≡ c.args.self.now = cc in same)

pub reserve_written-requires : goal.reserve_written-requires
reserve_written-requires c = long_stripes _ c.self.inside.stripes.items c.as_mut_slice.ensures.value c.self.invariant
