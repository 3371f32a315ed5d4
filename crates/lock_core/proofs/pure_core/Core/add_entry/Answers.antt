use Rattle.std.proofs.Common.{◌++◌, ◌∷◌, [], List, length, map, slice_set, ap, ap₂, ◌∙◌, arith}
use Rattle.std.proofs.lemmas.List.{with_items_is}
use Rattle.lock_core.specs.Machine.{LockState}
use Rattle.lock_core.proofs.Commit.{commit_keeps}
use Rattle.lock_core.proofs.CoreMoves.{live_row, parts_long, sound_is}
use Rattle.lock_core.proofs.Growing.{parts_after, reply_after, rows_after}
use Rattle.lock_core.proofs.Rigid.{shows, core_is}
use Rattle.lock_core.proofs.pure_core.Core.add_entry.Goals as goal

pub play-requires : goal.play-requires
play-requires g c =
    ap (λ (l : List g.row.P-Part.Denot). length l) c.as_mut_slice.ensures.value
    ∙ parts_long g.P.Parted.object g.P.Parted.bare c.self.inside c.self.invariant _ c.self.view_is g.met.P.Parted.lawful

pub index_mut-row-requires : goal.index_mut-row-requires
index_mut-row-requires g c =
    let l = live_row g.P.Parted.object g.P.Parted.bare c.self.inside c.self.invariant _ c.self.view_is c.args.seat c.requires.allowed.0 in
    omega (arith, c.self.inside.rows.ok.0)

pub invariant_of-self-2 : goal.invariant_of-self-2
invariant_of-self-2 g c =
    core_is g.P.Parted.object g.met.P.Parted.lawful _
    (commit_keeps g.P.Parted.object [] g.met.P.Parted.lawful c.args.self.now c.args.seat c.args.entry
    (sound_is g.P.Parted.object g.P.Parted.bare c.self.inside c.self.invariant _ c.self.view_is) c.requires.allowed)
    g.P.Parted.bare _
    (ap (λ (l : List g.row.P-Part.Denot). map g.P.Parted.bare l) (with_items_is c.self.inside.parts c.play.new.parts (omega (arith, c.play.auto.parts, c.as_mut_slice.ensures.len)))
    ∙ parts_after g.P.Parted.object g.met.P.Parted.lawful g.P.Parted.bare c.self.inside c.self.invariant _ c.self.view_is c.args.seat c.args.entry c.args.number
    c.requires.allowed c.requires.counted _ _ _ c.as_mut_slice.ensures.value c.in_ok-reply.ensures.1
    (c.in-Ok.ensures.items ∙ ap (λ (l : List g.row.P-Entry.Denot). l ++ c.args.entry ∷ [])
    (c.in_ok-reserve.ensures.items ∙ ap (λ (z : LockState g.row.P-Part.Denot g.row.P-Entry.Denot g.row.P-Reply.Denot). z.journal) c.self.view_is)))
    (ap (λ (z : LockState g.row.P-Part.Denot g.row.P-Entry.Denot g.row.P-Reply.Denot). slice_set z.words 128 0) c.self.view_is)
    (c.in-Ok.ensures.items ∙ ap (λ (l : List g.row.P-Entry.Denot). l ++ c.args.entry ∷ [])
    (c.in_ok-reserve.ensures.items ∙ ap (λ (z : LockState g.row.P-Part.Denot g.row.P-Entry.Denot g.row.P-Reply.Denot). z.journal) c.self.view_is))
    (c.in-Ok-push.ensures.items ∙ ap₂ (λ (l : List g.row.P-Reply.Denot) (r : g.row.P-Reply.Denot). l ++ r ∷ [])
    (c.in_ok-reserve-2.ensures.items ∙ ap (λ (z : LockState g.row.P-Part.Denot g.row.P-Entry.Denot g.row.P-Reply.Denot). z.replies) c.self.view_is)
    (reply_after g.P.Parted.object g.met.P.Parted.lawful g.P.Parted.bare c.self.inside c.self.invariant _ c.self.view_is c.args.seat c.args.entry c.args.number
    c.requires.allowed c.requires.counted _ _ c.as_mut_slice.ensures.value c.in_ok-reply.ensures.0))
    (rows_after g.P.Parted.object g.met.P.Parted.lawful g.P.Parted.bare c.self.inside c.self.invariant _ c.self.view_is c.args.seat c.args.entry c.args.number
    c.requires.allowed c.requires.counted c.index_mut-row.result.now c.len-seen.result _ c.index_mut-row.ensures.value
    (c.len-seen.ensures ∙ c.push.new.self.ok.0) (c.in-Ok.ensures.items ∙ ap (λ (l : List g.row.P-Entry.Denot). l ++ c.args.entry ∷ [])
    (c.in_ok-reserve.ensures.items ∙ ap (λ (z : LockState g.row.P-Part.Denot g.row.P-Entry.Denot g.row.P-Reply.Denot). z.journal) c.self.view_is)))

pub returns : goal.returns
returns g c =
    shows g.P.Parted.object g.met.P.Parted.lawful _
    (commit_keeps g.P.Parted.object [] g.met.P.Parted.lawful c.args.self.now c.args.seat c.args.entry
    (sound_is g.P.Parted.object g.P.Parted.bare c.self.inside c.self.invariant _ c.self.view_is) c.requires.allowed)
    _
    (ap (λ (z : LockState g.row.P-Part.Denot g.row.P-Entry.Denot g.row.P-Reply.Denot). slice_set z.words 128 0) c.self.view_is)
    (ap (λ (l : List g.row.P-Part.Denot). map g.P.Parted.bare l) (with_items_is c.self.inside.parts c.play.new.parts (omega (arith, c.play.auto.parts, c.as_mut_slice.ensures.len)))
    ∙ parts_after g.P.Parted.object g.met.P.Parted.lawful g.P.Parted.bare c.self.inside c.self.invariant _ c.self.view_is c.args.seat c.args.entry c.args.number
    c.requires.allowed c.requires.counted _ _ _ c.as_mut_slice.ensures.value c.in_ok-reply.ensures.1
    (c.in-Ok.ensures.items ∙ ap (λ (l : List g.row.P-Entry.Denot). l ++ c.args.entry ∷ [])
    (c.in_ok-reserve.ensures.items ∙ ap (λ (z : LockState g.row.P-Part.Denot g.row.P-Entry.Denot g.row.P-Reply.Denot). z.journal) c.self.view_is)))
    (c.in-Ok.ensures.items ∙ ap (λ (l : List g.row.P-Entry.Denot). l ++ c.args.entry ∷ [])
    (c.in_ok-reserve.ensures.items ∙ ap (λ (z : LockState g.row.P-Part.Denot g.row.P-Entry.Denot g.row.P-Reply.Denot). z.journal) c.self.view_is))
    (c.in-Ok-push.ensures.items ∙ ap₂ (λ (l : List g.row.P-Reply.Denot) (r : g.row.P-Reply.Denot). l ++ r ∷ [])
    (c.in_ok-reserve-2.ensures.items ∙ ap (λ (z : LockState g.row.P-Part.Denot g.row.P-Entry.Denot g.row.P-Reply.Denot). z.replies) c.self.view_is)
    (reply_after g.P.Parted.object g.met.P.Parted.lawful g.P.Parted.bare c.self.inside c.self.invariant _ c.self.view_is c.args.seat c.args.entry c.args.number
    c.requires.allowed c.requires.counted _ _ c.as_mut_slice.ensures.value c.in_ok-reply.ensures.0))
    (rows_after g.P.Parted.object g.met.P.Parted.lawful g.P.Parted.bare c.self.inside c.self.invariant _ c.self.view_is c.args.seat c.args.entry c.args.number
    c.requires.allowed c.requires.counted c.index_mut-row.result.now c.len-seen.result _ c.index_mut-row.ensures.value
    (c.len-seen.ensures ∙ c.push.new.self.ok.0) (c.in-Ok.ensures.items ∙ ap (λ (l : List g.row.P-Entry.Denot). l ++ c.args.entry ∷ [])
    (c.in_ok-reserve.ensures.items ∙ ap (λ (z : LockState g.row.P-Part.Denot g.row.P-Entry.Denot g.row.P-Reply.Denot). z.journal) c.self.view_is)))
