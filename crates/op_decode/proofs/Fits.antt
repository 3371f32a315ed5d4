-- What is asked can be served.
use Rattle.std.proofs.Common.{◌≡◌, ℕ, length, Option, Ok}
use Rattle.std.specs.Prelude.{codes}
use Rattle.http_front.specs.declared.raw.Raw.{Raw}
use Rattle.namespace_model.specs.Sound.{HasLeaseId, IsOperation}
use Rattle.namespace_model.specs.declared.op.Op.{Op}
use Rattle.op_decode.specs.HeaderValues.{lease_id_in}

-- what is asked has what its operation asks, and the request gives the lease id that it needs
pub record Fits (raw : Raw) (o : Op) : Type 0 where
  pub operation : IsOperation o (length raw.body)
  pub id : (given : Option ℕ) → lease_id_in (codes "x-ms-lease-id") raw ≡ Ok given → HasLeaseId o given
