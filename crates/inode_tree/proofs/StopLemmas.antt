-- What a look needs that gave nothing.
use Rattle.std.proofs.Common.{◌≡◌, ℕ, ◌%◌, Bool, true, false, refl, sym, ap, subst, ◌∙◌}
use Rattle.std.proofs.lemmas.Bool.{false≢true}
use Rattle.std.specs.Prelude.{Result, Ok, Err}
use Rattle.std.specs.Result.{IsErrAnd}
use Rattle.lock_core.specs.declared.object.LockMode.TheVariants.{Shared}
use Rattle.inode_tree.specs.declared.draft.EvalStop.{EvalStop}
use Rattle.inode_tree.specs.declared.draft.EvalStop.TheVariants as stop
use Rattle.inode_tree.specs.declared.id.NodeId.{NodeId}
use Rattle.inode_tree.specs.declared.need.GetStop.{GetStop}
use Rattle.inode_tree.specs.declared.need.GetStop.TheVariants as get
use Rattle.inode_tree.specs.declared.need.Need.{Need}
use Rattle.inode_tree.specs.Stops.{stop_of_get}
use Rattle.inode_tree.specs.Views.{Held, covers}

-- a shared look at this id that failed names its stripe, which isn't held
abbrev pub IsNeedOf : Held → NodeId → Need → Type 0
IsNeedOf held id n = (n.stripe ≡ id.0 % 64) × (n.mode ≡ Shared) × (covers (held (id.0 % 64)) Shared ≡ false)

pub same_stop : {A : Type 0} (x y : EvalStop) → ◌≡◌ {A = Result A EvalStop} (Err x) (Err y) → x ≡ y
same_stop {A} x y e = ap stop_in e
  where
    stop_in : Result A EvalStop → EvalStop
    stop_in (Ok a) = x
    stop_in (Err z) = z

-- the evaluator's stop has the need of the look
pub stopped_look : {A : Type 0} (held : Held) (id : NodeId) (n : Need) (s : GetStop) (r : Result A EvalStop) → IsErrAnd r (λ e. e ≡ stop_of_get s) → r ≡ Err (stop.Need n)
    → ((k : Need) → s ≡ get.Need k → IsNeedOf held id k) → IsNeedOf held id n
stopped_look held id n s (Ok x) is e need = absurd is
stopped_look held id n (get.Need k) (Err x) is e need = subst (IsNeedOf held id) (need_in (sym is ∙ same_stop x (stop.Need n) e)) (need k refl)
  where
    read_need : EvalStop → Need
    read_need (stop.Need m) = m
    read_need stop.NoMemory = k

    need_in : stop.Need k ≡ stop.Need n → k ≡ n
    need_in f = ap read_need f
stopped_look held id n get.NoMemory (Err x) is e need = absurd (false≢true (ap is_need (sym is ∙ same_stop x (stop.Need n) e)))
  where
    is_need : EvalStop → Bool
    is_need (stop.Need m) = true
    is_need stop.NoMemory = false
