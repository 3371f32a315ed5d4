-- What has reached a sink so far.
use Rattle.std.proofs.Common.{◌≡◌, ℕ, ◌-◌, List, ◌++◌, length, take, drop, Option, sym, ap, ◌∙◌, append_assoc, take-append-drop}
use Rattle.std.proofs.lemmas.List.{take_rest}
use Rattle.std.proofs.KnownBytes.{Appends-trans}
use Rattle.std.specs.Io.KnownBytes.{Appends}

-- the front before the rest is out
pub record HasWritten (out out' : Option (List ℕ)) (bytes rest : List ℕ) : Type 0 where
  pub front : List ℕ
  pub whole : bytes ≡ front ++ rest
  pub appends : Appends out out' front

-- after a write of n bytes more, what is left is behind them
pub written_more : (out mid out' : Option (List ℕ)) (bytes rest : List ℕ) (n : ℕ) → HasWritten out mid bytes rest → Appends mid out' (take n rest)
    → HasWritten out out' bytes (take (length rest - n) (drop n rest))
written_more out mid out' bytes rest n so_far more = record {
  front = so_far.front ++ take n rest;
  whole = rw take_rest (so_far.whole ∙ ap (λ l. so_far.front ++ l) (sym (take-append-drop n rest)) ∙ sym (append_assoc so_far.front (take n rest) (drop n rest)));
  appends = Appends-trans out mid out' so_far.front (take n rest) so_far.appends more;
}
