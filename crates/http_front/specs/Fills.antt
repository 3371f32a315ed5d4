-- One read behind the bytes that are kept.
use Rattle.std.specs.Prelude.{◌≡◌, ℕ, ◌≤◌, Bool, true, false, List, [], ◌++◌, length, Option, Result, Ok, Err}
use Rattle.std.specs.Io.KnownBytes.{Consumes, IsAtEnd}
use Rattle.conn_io.specs.Causes.{Rose}
use Rattle.http_front.specs.declared.answers.FrontFault.{FrontFault}
use Rattle.http_front.specs.declared.answers.FrontFault.TheVariants.{Bad, CutShort, ReadFault, NoMemory}

-- what a read does to the source, as its bytes and its count of faults tell
pub record Outside : Type 0 where
  pub left : Option (List ℕ)
  pub faults : ℕ

-- at least one byte came, at most as many as there is room for
pub record FillsMore (before after : Outside) (old new : List ℕ) (room : ℕ) : Type 0 where
  pub taken : List ℕ
  pub consumes : Consumes before.left after.left taken
  pub grown : new ≡ old ++ taken
  pub some : 1 ≤ length taken
  pub few : length taken ≤ room
  pub counted : after.faults ≡ before.faults

-- the source gave none
pub record FillsNone (before after : Outside) (old new : List ℕ) : Type 0 where
  pub consumes : Consumes before.left after.left []
  pub at_end : IsAtEnd after.left
  pub stays : new ≡ old
  pub counted : after.faults ≡ before.faults

-- the source failed, and nothing was taken
pub record FillsFailed (before after : Outside) (old new : List ℕ) : Type 0 where
  pub consumes : Consumes before.left after.left []
  pub stays : new ≡ old
  pub later : before.faults ≤ after.faults
  pub rose : Rose before.faults after.faults

-- the source was not asked
pub record FillsNotAsked (before after : Outside) (old new : List ℕ) : Type 0 where
  pub left : after.left ≡ before.left
  pub stays : new ≡ old
  pub counted : after.faults ≡ before.faults

-- what the answer of a read says
abbrev pub Fills : Outside → Outside → List ℕ → List ℕ → ℕ → Result Bool FrontFault → Type 0
Fills before after old new room (Ok true) = FillsMore before after old new room
Fills before after old new room (Ok false) = FillsNone before after old new
Fills before after old new room (Err (Bad cause)) = ⊥
Fills before after old new room (Err (CutShort count)) = ⊥
Fills before after old new room (Err ReadFault) = FillsFailed before after old new
Fills before after old new room (Err NoMemory) = FillsNotAsked before after old new
