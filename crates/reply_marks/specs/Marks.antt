-- What a reply counts as.
use Rattle.std.specs.Prelude.{◌+◌, List, map, length, nat_lt, is_none, if◌then◌else◌}
use Rattle.namespace_model.specs.declared.request.Entry.{Entry}
use Rattle.namespace_model.specs.declared.reply.Reply.{Reply}
use Rattle.namespace_model.specs.Step.{step, tree_after, replies_of}
use Rattle.reply_marks.specs.declared.mark.Mark.{Mark}
use Rattle.reply_marks.specs.declared.mark.Mark.TheVariants.{Ok, Refused, Denied}

-- a status below 400, a refusal without a denial, a denial
abbrev pub mark_of : Reply → Mark
mark_of reply = if nat_lt reply.status 400 then Ok else (if is_none reply.denied then Refused else Denied)

-- for each entry of a journal in order, the mark of the reply that the run of the journal gives at its place
abbrev pub marks_of : List Entry → List Mark
marks_of journal = map mark_of (replies_of journal)

-- the mark of the reply to an entry behind a journal
abbrev pub next_mark : List Entry → Entry → Mark
next_mark journal e = mark_of (step (tree_after journal) e (length journal + 1)).reply
