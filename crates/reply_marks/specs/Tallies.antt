-- How many replies of a journal count as what.
use Rattle.std.specs.Prelude.{ℕ, ◌+◌, Bool, List, [], ◌∷◌, map, sum_by, if◌then◌else◌}
use Rattle.namespace_model.specs.declared.request.Entry.{Entry}
use Rattle.reply_marks.specs.declared.mark.Mark.{Mark}
use Rattle.reply_marks.specs.declared.mark.Mark.TheVariants as mark
use Rattle.reply_marks.specs.declared.tally.Tally.{Tally}
use Rattle.reply_marks.specs.Marks.{marks_of}

-- 1 where the marks are the same
abbrev pub counts : Mark → Mark → ℕ
counts mark.Ok mark.Ok = 1
counts mark.Refused mark.Refused = 1
counts mark.Denied mark.Denied = 1
counts m k = 0

-- how often a mark is that of one of these entries
unfoldable pub count_in : {X : Type 0} → Mark → (X → Bool) → List X → List Mark → ℕ
count_in m is_one [] marks = 0
count_in m is_one (x ∷ xs) [] = 0
count_in m is_one (x ∷ xs) (k ∷ marks) = (if is_one x then counts m k else 0) + count_in m is_one xs marks

-- the replies to these entries of a journal, by the run of the whole journal
abbrev pub tally_of : {X : Type 0} → (X → Entry) → (X → Bool) → List X → Tally
tally_of entry_of is_one journal = record {
  ok = count_in mark.Ok is_one journal (marks_of (map entry_of journal));
  refused = count_in mark.Refused is_one journal (marks_of (map entry_of journal));
  denied = count_in mark.Denied is_one journal (marks_of (map entry_of journal));
}

-- one reply more
abbrev pub one_more : Tally → Mark → Tally
one_more t mark.Ok = record { ok = t.ok + 1; refused = t.refused; denied = t.denied }
one_more t mark.Refused = record { ok = t.ok; refused = t.refused + 1; denied = t.denied }
one_more t mark.Denied = record { ok = t.ok; refused = t.refused; denied = t.denied + 1 }

-- all together
abbrev pub total_of : List Tally → Tally
total_of ts = record { ok = sum_by (λ t. t.ok) ts; refused = sum_by (λ t. t.refused) ts; denied = sum_by (λ t. t.denied) ts }
