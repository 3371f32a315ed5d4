-- Whole runs of the lock machine.
use Rattle.std.proofs.Common.{◌≡◌, suc, List, [], ◌∷◌, ◌++◌, All, Result, Ok, Err, IsErrAnd, IfErr, ap, sym, ◌∙◌, subst, inl, inr, arith}
use Rattle.lock_core.specs.declared.machine.Event.{Event}
use Rattle.lock_core.specs.declared.machine.StepStop.{StepStop}
use Rattle.lock_core.specs.declared.machine.StepStop.TheVariants.{NotAllowed, NoMemory}
use Rattle.lock_core.specs.Clauses.{FirstBroken, IsStop}
use Rattle.lock_core.specs.Object.{Object, IsLawful}
use Rattle.lock_core.specs.Machine.{LockState, NamesStripe, asked, IsAllowed, stepped, Steps}
use Rattle.lock_core.specs.Sound.{AllFit, IsSound, opened}
use Rattle.lock_core.specs.Invariant.{Invariant}
use Rattle.lock_core.specs.Runs.{Runs, IsRunStop}
use Rattle.lock_core.proofs.Every.{event_keeps}
use Rattle.lock_core.proofs.InWords.{in_words}
use Rattle.lock_core.proofs.Opening.{opening_sound}

module _ {T E R P W : Type 0} (o : Object T E R) (lawful : IsLawful o) (h0 : List E) where
  pub step_keeps : (old new : LockState T E R) (e : Event P E R T W) (r : Result (Unit {0}) StepStop) → NamesStripe e → IsSound o h0 old
      → Steps o old new e r → IsSound o h0 new
  step_keeps old new e (Ok u) n ok s = subst (λ (z : LockState T E R). IsSound o h0 z) (sym s.1) (event_keeps o lawful h0 old e n ok s.0)
  step_keeps old new e (Err x) n ok s = subst (λ (z : LockState T E R). IsSound o h0 z) (sym s.1) ok

  run_keeps : (m last : LockState T E R) (es : List (Event P E R T W)) → All NamesStripe es → IsSound o h0 m → Runs o m es last → IsSound o h0 last
  run_keeps m last [] all ok is = subst (λ (z : LockState T E R). IsSound o h0 z) (sym is) ok
  run_keeps m last (e ∷ es) all ok r =
      run_keeps (stepped o m e) last es (λ k d h. all (suc k) d (omega arith)) (event_keeps o lawful h0 m e (all 0 e (omega arith)) ok r.0) r.1

  pub run_from_start : (last : LockState T E R) (es : List (Event P E R T W)) → AllFit o h0 → All NamesStripe es → Runs o (opened o h0) es last
      → Invariant o h0 last
  run_from_start last es fits all r = in_words o h0 last (run_keeps (opened o h0) last es all (opening_sound o h0 lawful fits) r)

module _ {T E R P W : Type 0} (o : Object T E R) where
  -- one event more
  pub runs-snoc : (m mid last : LockState T E R) (es : List (Event P E R T W)) (e : Event P E R T W) → Runs o m es mid → IsAllowed o mid e
      → last ≡ stepped o mid e → Runs o m (es ++ e ∷ []) last
  runs-snoc m mid last [] e is a l =
      (subst (λ (z : LockState T E R). IsAllowed o z e) is a, l ∙ ap (λ (z : LockState T E R). stepped o z e) is)
  runs-snoc m mid last (x ∷ es) e r a l = (r.0, runs-snoc (stepped o m x) mid last es e r.1 a l)

  -- the event after a run that stops
  pub run_stops : (m mid : LockState T E R) (es rest : List (Event P E R T W)) (e : Event P E R T W) (s : StepStop) → Runs o m es mid
      → IsStop (asked o mid e) s → IsRunStop o m (es ++ e ∷ rest) s
  run_stops m mid es rest e NoMemory r b = tt
  run_stops m mid [] rest e (NotAllowed c) is b = inl (subst (λ (z : LockState T E R). FirstBroken (asked o z e) c) is b)
  run_stops m mid (x ∷ es) rest e (NotAllowed c) r b = inr (r.0, run_stops (stepped o m x) mid es rest e (NotAllowed c) r.1 b)

-- an error that was passed on
pub passed_on : {A : Type 0} (r : Result A StepStop) (s : StepStop) (Q : StepStop → Type 0) → IsErrAnd r (λ t. t ≡ s) → Q s → IfErr r Q
passed_on (Ok x) s Q p q = tt
passed_on (Err t) s Q p q = subst Q (sym p) q
