-- The order of the lines of a reply.
use Rattle.std.specs.Prelude.{ℕ, suc, ◌+◌, ◌≤◌, List, [], ◌∷◌, None}
use Rattle.namespace_model.specs.declared.field.Field.{Field}
use Rattle.namespace_model.specs.declared.field.Field.TheVariants as field

-- the place of a line among all lines that the request, the node or the operation gives
abbrev pub line_place : Field → ℕ
line_place field.Close = 0
line_place (field.ETag number) = 1
line_place (field.LastModified moment) = 2
line_place field.AcceptRanges = 3
line_place (field.ContentRange from to len) = 4
line_place (field.ContentType media) = 5
line_place (field.ResourceType kind) = 6
line_place (field.Owner id) = 7
line_place (field.Group id) = 8
line_place (field.Permissions text) = 9
line_place (field.Acl text) = 10
line_place (field.Properties props) = 11
line_place (field.LeaseState state) = 12
line_place (field.LeaseStatus locked) = 13
line_place (field.LeaseDuration infinite) = 14
line_place (field.LeaseId id) = 15
line_place (field.LeaseTime secs) = 16
line_place field.NamespaceEnabled = 17
line_place (field.Continuation token) = 18
line_place (field.ContentLength len) = 19

-- the lines ascend by their places, from this one on; so none comes twice
abbrev pub AscendFrom : ℕ → List Field → Type 0
AscendFrom least [] = Unit {0}
AscendFrom least (f ∷ fs) = (least ≤ line_place f) × AscendFrom (suc (line_place f)) fs

abbrev pub AreInOrder : List Field → Type 0
AreInOrder fields = AscendFrom 0 fields

-- one where the line is an ETag that is left open for the number of the entry that is answered
abbrev pub open_tag : Field → ℕ
open_tag (field.ETag None) = 1
open_tag other = 0

-- how many ETags are open
abbrev pub open_tags : List Field → ℕ
open_tags [] = 0
open_tags (f ∷ fs) = open_tag f + open_tags fs
