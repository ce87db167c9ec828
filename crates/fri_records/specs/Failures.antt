-- What holds where records aren't read, where requests aren't committed to or opened, and where
-- statements aren't accepted.
use Rattle.std.specs.Prelude.{◌≡◌, ⊤}
use Rattle.p3_mmcs.specs.declared.sha256_mmcs.error.Sha256MmcsError.{Sha256MmcsError}
use Rattle.p3_fri_relation.specs.declared.error.FriError.{FriError}
use Rattle.p3_fri_relation.specs.declared.error.FriError.TheVariants as refusal
use Rattle.p3_fri_plain.specs.declared.error.PlainProofError.{PlainProofError}
use Rattle.p3_fri_plain.specs.declared.error.PlainProofError.TheVariants as form
use Rattle.fri_records.specs.declared.fault.ReadError.{ReadError}
use Rattle.fri_records.specs.declared.fault.ReadError.TheVariants as read
use Rattle.fri_records.specs.declared.fault.RequestError.{RequestError}
use Rattle.fri_records.specs.declared.fault.RequestError.TheVariants as request
use Rattle.fri_records.specs.declared.fault.VerifyError.{VerifyError}
use Rattle.fri_records.specs.declared.fault.VerifyError.TheVariants.{Malformed, Refused}
use Rattle.fri_records.specs.declared.fault.VerifyError.TheVariants.{OutOfMemory}

-- the fact that holds where a record isn't well formed; want of memory says nothing
abbrev pub IfMalformed : Type 0 → ReadError → Type 0
IfMalformed P (read.Malformed misfit) = P
IfMalformed P read.OutOfMemory = Unit {0}

module _ {E : Type 0} where
  -- of a request, where it isn't well formed, and where the scheme refuses it
  abbrev pub MatchRequestError : Type 0 → (E → Type 0) → RequestError E → Type 0
  MatchRequestError P R (request.Malformed misfit) = P
  MatchRequestError P R (request.Refused e) = R e
  MatchRequestError P R request.OutOfMemory = Unit {0}

  -- why nothing comes of a request whose records aren't read
  abbrev pub unread_request : ReadError → RequestError E
  unread_request (read.Malformed misfit) = request.Malformed misfit
  unread_request read.OutOfMemory = request.OutOfMemory

-- of a statement, where it isn't well formed, and where it is refused
abbrev pub MatchVerifyError : Type 0 → (FriError Sha256MmcsError Sha256MmcsError → Type 0)
    → VerifyError → Type 0
MatchVerifyError P R (Malformed misfit) = P
MatchVerifyError P R (Refused e) = R e
MatchVerifyError P R OutOfMemory = Unit {0}

-- why a statement fails whose records aren't read
abbrev pub unread : ReadError → VerifyError
unread (read.Malformed misfit) = Malformed misfit
unread read.OutOfMemory = OutOfMemory

-- and one that the scheme's verifier refuses
abbrev pub failure_of : FriError Sha256MmcsError Sha256MmcsError → VerifyError
failure_of refusal.OutOfMemory = OutOfMemory
failure_of e = Refused e

-- a statement that isn't well formed
abbrev pub IsMalformed : VerifyError → Type 0
IsMalformed (Malformed misfit) = ⊤
IsMalformed _ = ⊥

-- and what comes of a plain form that is no proof's
abbrev pub IsUnformed : PlainProofError → VerifyError → Type 0
IsUnformed form.OutOfMemory f = f ≡ OutOfMemory
IsUnformed e f = IsMalformed f
