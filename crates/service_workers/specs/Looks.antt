-- What a look at the nodes that a pass holds is of, and what it has shown.
use Rattle.std.specs.Prelude.{◌≡◌, ℕ, List, [], true, false, option_map, unwrap_or, slice_get}
use Rattle.std.specs.Prelude as std
use Rattle.lock_core.specs.declared.object.LockMode.{LockMode}
use Rattle.lock_core.specs.declared.object.LockMode.TheVariants as mode
use Rattle.inode_tree.specs.declared.placed.Placed.{Placed}
use Rattle.inode_tree.specs.Stripes.{StripeRecord}
use Rattle.inode_tree.specs.Views.{Held, Shown}
use Rattle.path_locks.specs.Views.{HeldView, TableView, IsHeldBy}
use Rattle.striped_store.specs.Views.{PassView, found_by, FindsOneJournal, IsOf}
use Rattle.parted_namespace.specs.Laws.{option_of}
use Rattle.parted_namespace.specs.Opening.{bare_stripe}
use Rattle.parted_namespace.specs.Namespace.{namespace}

-- a pass of a store of the namespace
abbrev pub NamespacePass : Type 0 → Type 0
NamespacePass K = PassView StripeRecord Placed K

-- the name of the reference to the pass, the pass, and what it holds
pub record Looker (K : Type 0) : Type 0 where
  pub name : ℕ
  pub pass : NamespacePass K
  pub held : HeldView StripeRecord

-- the mode in which each stripe is held
abbrev pub mode_in : HeldView StripeRecord → Held
mode_in held k = unwrap_or (slice_get held.modes k) mode.None

module _ {K : Type 0} where
  -- the part that the pass found in a stripe
  abbrev pub shown_by : NamespacePass K → Shown
  shown_by pass k = option_map (λ (s : StripeRecord). s.part) (option_of (found_by pass k))

  -- all but what a look changes: what was found, and what is in hand
  abbrev pub unlooked : Looker K → Looker K
  unlooked v = record {
    name = v.name;
    pass = record {
      seat = record {
        table = v.pass.seat.table;
        id = v.pass.seat.id;
        me = (
          record {
            at = record {
              live = true;
              number = v.pass.seat.me.0.at.number;
              holds = [];
              latch = std.None;
              journal = false;
              seen = v.pass.seat.me.0.at.seen;
              mine = v.pass.seat.me.0.at.mine;
              olds = v.pass.seat.me.0.at.olds;
            };
            before = v.pass.seat.me.0.before;
            made = v.pass.seat.me.0.made;
            limits = v.pass.seat.me.0.limits;
            taken = v.pass.seat.me.0.taken;
            tape = v.pass.seat.me.0.tape;
          },
          [],
        );
        room = [];
      };
      wide = v.pass.wide;
    };
    held = v.held;
  }

  -- the pass is one of the store, holds what is held, which is the plan, and has found one journal
  pub record IsLooking (store : TableView Placed) (pass : NamespacePass K) (held : HeldView StripeRecord) (modes : List LockMode) : Type 0 where
    pub own : IsOf store pass
    pub holds : IsHeldBy bare_stripe pass.seat held
    pub found : FindsOneJournal namespace pass
    pub plan : held.modes ≡ modes
