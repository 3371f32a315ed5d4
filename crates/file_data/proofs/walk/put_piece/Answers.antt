use Rattle.std.proofs.Common.{ℕ, ◌≡◌, ◌<◌, ◌≤◌, List, length, take, drop, ap, sym, refl, ◌∙◌, arith}
use Rattle.std.specs.Prelude.{insert, remove, vec_len}
use Rattle.file_data.specs.Staging.{pieces_below, pieces_from}
use Rattle.file_data.proofs.StagingLemmas.{put_replaces, put_inserts, put_ends}
use Rattle.file_data.proofs.walk.put_piece.Goals as goal
use Rattle.file_data.proofs.walk.put_piece.Goals.{then-at-len+then-index-position, else-at-len, else-at-len-via-then-at-len+else-index-position, else-at-len-via-else-at-len}

pub returns-clause-items : goal.returns-clause-items
returns-clause-items c =
    let put : c.insert.new.self.items ≡ insert c.if-at-len.pieces.items c.count_below-at.result (c.args.position, c.args.piece) = c.in-Ok.ensures.items in
    let front : take c.count_below-at.result c.args.pieces.now.items ≡ pieces_below c.args.pieces.now.items c.args.position =
    rw c.as_slice.ensures.value at c.count_below-at.ensures.front in
    let back : drop c.count_below-at.result c.args.pieces.now.items ≡ pieces_from c.args.pieces.now.items c.args.position =
    rw c.as_slice.ensures.value at c.count_below-at.ensures.back in
    let long : length c.args.pieces.now.items ≡ vec_len c.args.pieces.now = ap length (sym c.as_slice.ensures.value) ∙ c.as_slice.ensures.len in
    elim c.if-at-len.branch [
      | then-at-len+then-index-position w ↦
          let inside : c.count_below-at.result < length c.args.pieces.now.items = omega arith in
          let left : c.if-at-len.pieces.items ≡ remove c.args.pieces.now.items c.count_below-at.result = rw w.pieces-is w.remove.ensures.items in
          put ∙ ap (λ (ys : List (ℕ × List ℕ)). insert ys c.count_below-at.result (c.args.position, c.args.piece)) left
          ∙ put_replaces c.args.pieces.now.items c.count_below-at.result c.args.position c.args.piece w.index.result.now c.requires.ascends inside front
          (sym (ap (λ (p : ℕ × List ℕ). p.0) w.index.ensures) ∙ w.if-index-position.true)
      | else-at-len w ↦
          let left : insert c.if-at-len.pieces.items c.count_below-at.result (c.args.position, c.args.piece) ≡ insert c.args.pieces.now.items c.count_below-at.result (c.args.position, c.args.piece) =
          rw w.pieces-is refl in
          elim w.else-at-len.branch [
            | else-at-len-via-then-at-len+else-index-position w' ↦
                let inside : c.count_below-at.result < length c.args.pieces.now.items = omega arith in
                put ∙ left ∙ put_inserts c.args.pieces.now.items c.count_below-at.result c.args.position c.args.piece w'.index.result.now c.requires.ascends inside front back
                (λ e. w'.if-index-position.false (ap (λ (p : ℕ × List ℕ). p.0) w'.index.ensures ∙ e))
            | else-at-len-via-else-at-len w' ↦
                let outside : length c.args.pieces.now.items ≤ c.count_below-at.result = omega arith in
                put ∙ left ∙ put_ends c.args.pieces.now.items c.count_below-at.result c.args.position c.args.piece outside front
          ]
    ]
