-- Steps of worked conversations, as statements that the checker computes.
use Rattle.std.specs.Prelude.{◌≡◌, ℕ, true, false, List, [], ◌∷◌, map, codes, Some, None}
use Rattle.acl_text.specs.Ids.{superuser}
use Rattle.acl_text.specs.declared.who.Who.{Who}
use Rattle.acl_text.specs.declared.who.Who.TheVariants as who
use Rattle.head_text.specs.Conditions.{no_conditions}
use Rattle.lease_state.specs.declared.lease.AppendLease.TheVariants as append
use Rattle.lease_state.specs.declared.lease.Lease.TheVariants as lease
use Rattle.namespace_model.specs.declared.code.Code.TheVariants as code
use Rattle.namespace_model.specs.declared.denied.Rule.TheVariants as rule
use Rattle.namespace_model.specs.declared.op.Op.{Op}
use Rattle.namespace_model.specs.declared.op.Op.TheVariants as op
use Rattle.namespace_model.specs.declared.request.Entry.{Entry}
use Rattle.namespace_model.specs.Nodes.{Node, blank, directory, file}
use Rattle.namespace_model.specs.Trees.{Path, Tree, at, keys_where, is_child}
use Rattle.namespace_model.specs.Replies.{refusal, denial, success, stamp_fields}
use Rattle.namespace_model.specs.declared.op.Kind.TheVariants.{Directory}
use Rattle.namespace_model.specs.Effects.{Put}
use Rattle.namespace_model.specs.Step.{outcome}

-- an entry at a moment of a caller without groups, with an empty body
abbrev pub asked_at : ℕ → List ℕ → Op → Entry
asked_at moment caller operation = record {
  conn = 0;
  index = 0;
  moment = moment;
  request = record { caller = Some (record { id = caller; groups = [] }); op = operation; cond = no_conditions; lease = None; source_lease = None; head = false; close = false; body = [] };
}

-- the same with these bytes behind its head
abbrev pub with_bytes : List ℕ → Entry → Entry
with_bytes bytes e = record e { request = record e.request { body = bytes } }

abbrev pub data_root : Path
data_root = codes "data" ∷ []

-- the root of a filesystem that all may use
abbrev pub open_root : Node
open_root = record blank { content = directory; acl = record { access = (who.Owner, 7) ∷ (who.OwningGroup, 7) ∷ (who.Other, 7) ∷ []; default = None } }

-- alice's file, whose mask leaves bob to read
abbrev pub masked_file : Node
masked_file = record blank {
  owner = codes "alice";
  acl = record { access = (who.Owner, 0) ∷ (who.User (codes "bob"), 7) ∷ (who.OwningGroup, 4) ∷ (who.Mask, 4) ∷ (who.Other, 7) ∷ []; default = None };
}

-- alice's sticky directory, which all may write
abbrev pub sticky_directory : Node
sticky_directory = record open_root { owner = codes "alice"; sticky = true }

abbrev pub file_of_bob : Node
file_of_bob = record blank { owner = codes "bob" }

-- a file that holds `helloworld`, behind which `!!` is staged at 12
abbrev pub staged_file : Node
staged_file = record blank { content = file (codes "helloworld") ((12, codes "!!") ∷ []) }

-- a file that is leased for 15 seconds until 16,000
abbrev pub leased_file : Node
leased_file = record blank { lease = lease.Leased 170 (Some 15) 16000 }

abbrev pub in_data : List ℕ → Path
in_data name = codes "data" ∷ name ∷ []

abbrev pub AFilesystemIsMadeByTheSuperuserAlone : Type 0
AFilesystemIsMadeByTheSuperuserAlone =
    (t : Tree) → (outcome t (asked_at 0 (codes "alice") (op.CreateFilesystem data_root None))).reply ≡ denial rule.SuperuserOnly data_root 0 0

abbrev pub TheMaskLimitsANamedUser : Type 0
TheMaskLimitsANamedUser =
    (t : Tree) → at t data_root ≡ Some open_root → at t (in_data (codes "f")) ≡ Some masked_file
    → (outcome t (asked_at 0 (codes "bob") (op.CheckAccess (in_data (codes "f")) 2))).reply ≡ denial rule.NamedUser (in_data (codes "f")) 2 4

abbrev pub TheOwnerIsJudgedByItsEntry : Type 0
TheOwnerIsJudgedByItsEntry =
    (t : Tree) → at t data_root ≡ Some open_root → at t (in_data (codes "f")) ≡ Some masked_file
    → (outcome t (asked_at 0 (codes "alice") (op.CheckAccess (in_data (codes "f")) 4))).reply ≡ denial rule.Owner (in_data (codes "f")) 4 0

abbrev pub AStickyDirectoryGuardsItsChildren : Type 0
AStickyDirectoryGuardsItsChildren =
    (t : Tree) → at t data_root ≡ Some sticky_directory → at t (in_data (codes "b")) ≡ Some file_of_bob
    → (outcome t (asked_at 0 (codes "carol") (op.Delete (in_data (codes "b")) false))).reply ≡ denial rule.Sticky (in_data (codes "b")) 0 0

abbrev pub AFlushFillsNoGap : Type 0
AFlushFillsNoGap =
    (t : Tree) → at t data_root ≡ Some open_root → at t (in_data (codes "x")) ≡ Some staged_file
    → (outcome t (asked_at 0 superuser (op.Flush (in_data (codes "x")) 14 false))).reply ≡ refusal code.InvalidFlushPosition

abbrev pub ARangeIsCutToTheLastByte : Type 0
ARangeIsCutToTheLastByte =
    (t : Tree) → at t data_root ≡ Some open_root → at t (in_data (codes "x")) ≡ Some staged_file
    → (outcome t (asked_at 0 superuser (op.Read (in_data (codes "x")) (Some (record { from = 5; to = Some 99 }))))).reply.body ≡ codes "world"

abbrev pub ALeaseKeepsAWriterOutUntilItsEnd : Type 0
ALeaseKeepsAWriterOutUntilItsEnd =
    (t : Tree) → at t data_root ≡ Some open_root → at t (in_data (codes "l")) ≡ Some leased_file
    → (outcome t (asked_at 15999 superuser (op.SetProperties (in_data (codes "l")) []))).reply ≡ refusal code.LeaseIdMissing

abbrev pub ALeaseThatHasComeToItsEndLetsItIn : Type 0
ALeaseThatHasComeToItsEndLetsItIn =
    (t : Tree) → at t data_root ≡ Some open_root → at t (in_data (codes "l")) ≡ Some leased_file
    → (outcome t (asked_at 16000 superuser (op.SetProperties (in_data (codes "l")) []))).reply ≡ success 200 (stamp_fields 16000)

-- 0777 and the umask 0057 leave 0720, and the directory that is missing on the way has 0720 too
abbrev pub TheUmaskRestrictsNewNodes : Type 0
TheUmaskRestrictsNewNodes =
    (t : Tree) → at t data_root ≡ Some open_root → at t (in_data (codes "d")) ≡ None
    → map {B = Path × List (Who × ℕ)} (λ (x : Path × Put). (x.0, x.1.node.acl.access)) (outcome t (asked_at 0 superuser (op.Create (codes "data" ∷ codes "d" ∷ codes "e" ∷ []) Directory None (Some (record { sticky = false; owner = 0; group = 5; other = 7 })) None))).effect.puts
    ≡ (in_data (codes "d"), (who.Owner, 7) ∷ (who.OwningGroup, 2) ∷ (who.Other, 0) ∷ []) ∷ (codes "data" ∷ codes "d" ∷ codes "e" ∷ [], (who.Owner, 7) ∷ (who.OwningGroup, 2) ∷ (who.Other, 0) ∷ []) ∷ []

abbrev pub ADirectoryThatIsNotEmptyStays : Type 0
ADirectoryThatIsNotEmptyStays =
    (t : Tree) → at t data_root ≡ Some open_root → at t (in_data (codes "a")) ≡ Some open_root → keys_where t (is_child (in_data (codes "a"))) ≡ (codes "data" ∷ codes "a" ∷ codes "f" ∷ []) ∷ []
    → (outcome t (asked_at 0 superuser (op.Delete (in_data (codes "a")) false))).reply ≡ refusal code.DirectoryNotEmpty

-- `!` at 7 of an empty file leaves a gap, and nothing is staged
abbrev pub AnAppendThatFlushesFillsNoGap : Type 0
AnAppendThatFlushesFillsNoGap =
    (t : Tree) → at t data_root ≡ Some open_root → at t (in_data (codes "x")) ≡ Some blank
    → (outcome t (with_bytes (codes "!") (asked_at 0 superuser (op.Append (in_data (codes "x")) 7 true false append.Plain)))).reply ≡ refusal code.InvalidFlushPosition

-- `hello` at 0 of an empty file is in the file at once, which is stamped
abbrev pub AnAppendMayFlush : Type 0
AnAppendMayFlush =
    (t : Tree) → at t data_root ≡ Some open_root → at t (in_data (codes "x")) ≡ Some blank
    → (outcome t (with_bytes (codes "hello") (asked_at 5 superuser (op.Append (in_data (codes "x")) 0 true false append.Plain)))).effect.puts
    ≡ (in_data (codes "x"), record { node = record blank { content = file (codes "hello") []; moment = 5 }; stamped = true }) ∷ []

-- an append takes the lease 170 for 15 seconds from 1,000 on, answers its id, and stamps nothing
abbrev pub AnAppendMayTakeALease : Type 0
AnAppendMayTakeALease =
    (t : Tree) → at t data_root ≡ Some open_root → at t (in_data (codes "l")) ≡ Some blank
    → (outcome t (with_bytes (codes "a") (asked_at 1000 superuser (op.Append (in_data (codes "l")) 0 false false (append.Acquire 170 (Some 15)))))).effect.puts
    ≡ (in_data (codes "l"), record { node = record blank { content = file [] ((0, codes "a") ∷ []); lease = lease.Leased 170 (Some 15) 16000 }; stamped = false }) ∷ []

abbrev pub AnAppendIsKeptOutByALease : Type 0
AnAppendIsKeptOutByALease =
    (t : Tree) → at t data_root ≡ Some open_root → at t (in_data (codes "l")) ≡ Some leased_file
    → (outcome t (with_bytes (codes "a") (asked_at 2000 superuser (op.Append (in_data (codes "l")) 0 false false append.Plain)))).reply ≡ refusal code.LeaseIdMissing
