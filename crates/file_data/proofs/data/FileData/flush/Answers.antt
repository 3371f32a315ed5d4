use Rattle.std.proofs.Common.{ℕ, ◌≡◌, ◌++◌, ◌<◌, cond, [], List, length, take, drop, None, ap, sym, subst, ◌∙◌, arith}
use Rattle.file_data.specs.FileRecord.{FileRecord}
use Rattle.file_data.specs.FileInside.{record_of}
use Rattle.file_data.specs.Staging.{pieces_below, pieces_from, bytes_of, first_trouble}
use Rattle.file_data.proofs.StagingLemmas.{bytes-append}
use Rattle.file_data.proofs.FileLemmas.{allowed_as}
use Rattle.file_data.proofs.ExtentLemmas.{flush_extends, flush_leaves, flush_ends}
use Rattle.file_data.proofs.data.FileData.flush.Goals as goal

pub invariant_of-self : goal.invariant_of-self
invariant_of-self c =
    let extents = c.self.inside.extents.extents in
    let staged = c.self.inside.staged.items in
    let front : take c.count_below-count.result staged ≡ pieces_below staged c.args.position =
    ap (λ (ps : List (ℕ × List ℕ)). take c.count_below-count.result ps) (sym c.as_slice.ensures.value)
    ∙ c.count_below-count.ensures.front ∙ ap (λ (ps : List (ℕ × List ℕ)). pieces_below ps c.args.position) c.as_slice.ensures.value in
    let back : drop c.count_below-count.result staged ≡ pieces_from staged c.args.position =
    ap (λ (ps : List (ℕ × List ℕ)). drop c.count_below-count.result ps) (sym c.as_slice.ensures.value)
    ∙ c.count_below-count.ensures.back ∙ ap (λ (ps : List (ℕ × List ℕ)). pieces_from ps c.args.position) c.as_slice.ensures.value in
    let may = allowed_as (record_of c.self.inside) c.args.self.now c.self.view_is c.args.position c.in_ok-can_flush.ensures in
    let none : first_trouble (pieces_below staged c.args.position) (length (bytes_of extents)) c.args.position ≡ None = may.1 in
    let ready : c.self.inside.extents.ahead ≡ staged = c.self.invariant.ready (subst (λ (f : FileRecord). 0 < f.flush_room) (sym c.self.view_is) c.requires) in
    let added : c.take_up.new.self.extents ≡ extents ++ pieces_below staged c.args.position =
    c.take_up.ensures ∙ ap (λ (ps : List (ℕ × List ℕ)). extents ++ take c.count_below-count.result ps) ready ∙ ap (λ (ps : List (ℕ × List ℕ)). extents ++ ps) front in
    let left : c.clear_unless.new.pieces.items ≡ cond c.args.retain (pieces_from staged c.args.position) [] =
    c.clear_unless.ensures.items ∙ ap (λ (ps : List (ℕ × List ℕ)). cond c.args.retain ps []) (c.drop_first.ensures.items ∙ back) in
    record {
      file = rw (added, left) (flush_leaves extents staged c.args.position c.args.retain c.self.invariant.file none);
      extents = rw added (flush_extends extents staged c.args.position c.self.invariant.file c.self.invariant.extents none may.0);
      len = rw added (flush_ends extents staged c.args.position none);
      room = omega arith;
      ready = λ h. absurd (omega arith);
    }

pub returns-clause-flushed : goal.returns-clause-flushed
returns-clause-flushed c =
    let extents = c.self.inside.extents.extents in
    let staged = c.self.inside.staged.items in
    let front : take c.count_below-count.result staged ≡ pieces_below staged c.args.position =
    ap (λ (ps : List (ℕ × List ℕ)). take c.count_below-count.result ps) (sym c.as_slice.ensures.value)
    ∙ c.count_below-count.ensures.front ∙ ap (λ (ps : List (ℕ × List ℕ)). pieces_below ps c.args.position) c.as_slice.ensures.value in
    let back : drop c.count_below-count.result staged ≡ pieces_from staged c.args.position =
    ap (λ (ps : List (ℕ × List ℕ)). drop c.count_below-count.result ps) (sym c.as_slice.ensures.value)
    ∙ c.count_below-count.ensures.back ∙ ap (λ (ps : List (ℕ × List ℕ)). pieces_from ps c.args.position) c.as_slice.ensures.value in
    let ready : c.self.inside.extents.ahead ≡ staged = c.self.invariant.ready (subst (λ (f : FileRecord). 0 < f.flush_room) (sym c.self.view_is) c.requires) in
    let added : c.take_up.new.self.extents ≡ extents ++ pieces_below staged c.args.position =
    c.take_up.ensures ∙ ap (λ (ps : List (ℕ × List ℕ)). extents ++ take c.count_below-count.result ps) ready ∙ ap (λ (ps : List (ℕ × List ℕ)). extents ++ ps) front in
    let left : c.clear_unless.new.pieces.items ≡ cond c.args.retain (pieces_from staged c.args.position) [] =
    c.clear_unless.ensures.items ∙ ap (λ (ps : List (ℕ × List ℕ)). cond c.args.retain ps []) (c.drop_first.ensures.items ∙ back) in (
      ap bytes_of added ∙ bytes-append extents (pieces_below staged c.args.position)
          ∙ ap (λ (f : FileRecord). f.committed ++ bytes_of (pieces_below f.staged c.args.position)) c.self.view_is,
      added ∙ ap (λ (f : FileRecord). f.extents ++ pieces_below f.staged c.args.position) c.self.view_is,
      left ∙ ap (λ (f : FileRecord). cond c.args.retain (pieces_from f.staged c.args.position) []) c.self.view_is,
    )
