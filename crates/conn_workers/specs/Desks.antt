-- A pass of the service as a desk, which answers the requests of one connection.
use Rattle.std.specs.Prelude.{◌≡◌, ℕ, ◌+◌, ◌≤◌, true, false, []}
use Rattle.std.specs.Prelude as std
use Rattle.inode_tree.specs.declared.placed.Placed.{Placed}
use Rattle.path_locks.specs.Alike.{limits_of}
use Rattle.path_locks.specs.Views.{TableView, HoldsNothing}
use Rattle.serving.specs.Known.{Known}
use Rattle.serving.specs.declared.refusal.SubmitRefusal.{SubmitRefusal}
use Rattle.serving.specs.declared.refusal.SubmitRefusal.TheVariants as submit
use Rattle.striped_store.specs.declared.receipt.CommitRefusal.{CommitRefusal}
use Rattle.striped_store.specs.declared.receipt.CommitRefusal.TheVariants as refusal
use Rattle.striped_store.specs.Views.{seen_by, made_by, FindsOneJournal, IsOf}
use Rattle.parted_namespace.specs.Namespace.{namespace}
use Rattle.service_workers.specs.Looks.{NamespacePass}

-- The clock is asked once in each round, at most 129 times, and the last answer is the moment.
pub record AsksLast (answer times : ℕ) : Type 0 where
  pub last : times ≡ answer + 1
  pub few : times ≤ 129

-- how a refusal of a submit is told to a connection
abbrev pub refusal_of : CommitRefusal → SubmitRefusal
refusal_of (refusal.Full full) = submit.Full full
refusal_of refusal.Tape = submit.NoMemory
refusal_of refusal.NoMemory = submit.NoMemory

-- the name of the reference to the pass, the pass, and the number of the connection
pub record Sitter (K : Type 0) : Type 0 where
  pub name : ℕ
  pub pass : NamespacePass K
  pub conn : ℕ

module _ {K : Type 0} where
  -- the journal as far as the pass knows it, and its own entries
  abbrev pub known_by : NamespacePass K → Known Placed
  known_by pass = record { seen = seen_by pass; mine = made_by pass }

  -- the pass is one of the service, with its limits, and holds nothing, and its own entries are those of what it has seen
  pub record IsSeated (service : TableView Placed) (pass : NamespacePass K) : Type 0 where
    pub own : IsOf service pass
    pub nothing : HoldsNothing pass.seat
    pub found : FindsOneJournal namespace pass
    pub limits : limits_of pass.seat ≡ service.limits

  -- all but what a submit changes: what the pass has seen and made, what it knows of the keeper, and what it holds
  abbrev pub unserved : Sitter K → Sitter K
  unserved d = record {
    name = d.name;
    pass = record {
      seat = record {
        table = d.pass.seat.table;
        id = d.pass.seat.id;
        me = (
          record {
            at = record {
              live = true;
              number = d.pass.seat.me.0.at.number;
              holds = [];
              latch = std.None;
              journal = false;
              seen = [];
              mine = [];
              olds = d.pass.seat.me.0.at.olds;
            };
            before = d.pass.seat.me.0.before;
            made = d.pass.seat.me.0.made;
            limits = d.pass.seat.me.0.limits;
            taken = 0;
            tape = 0;
          },
          [],
        );
        room = [];
      };
      wide = 0;
    };
    conn = d.conn;
  }
