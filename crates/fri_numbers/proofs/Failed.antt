-- What holds of a failure that comes of another.
use Rattle.std.proofs.Common.{◌≡◌, ◌≢◌, Result, Ok, Err, IfErr, true, false, refl, sym, subst, ap, ◌∙◌, inl, inr}
use Rattle.std.specs.Prelude.{IsErrAnd}
use Rattle.p3_mmcs.specs.declared.sha256_mmcs.error.Sha256MmcsError.{Sha256MmcsError}
use Rattle.p3_fri_relation.specs.declared.error.FriError.{FriError}
use Rattle.p3_fri_relation.specs.declared.error.FriError.TheVariants as refusal
use Rattle.p3_fri_two_adic.specs.ErrorLaws.{memory_cases}
use Rattle.fri_records.specs.declared.fault.Misfit.{Misfit}
use Rattle.fri_records.specs.declared.fault.ReadError.{ReadError}
use Rattle.fri_records.specs.declared.fault.ReadError.TheVariants.{Malformed, OutOfMemory}
use Rattle.fri_records.specs.declared.fault.RequestError.{RequestError}
use Rattle.fri_records.specs.declared.fault.RequestError.TheVariants as request
use Rattle.fri_records.specs.declared.fault.VerifyError.{VerifyError}
use Rattle.fri_records.specs.declared.fault.VerifyError.TheVariants as statement
use Rattle.fri_records.specs.declared.fault.VerifyError.TheVariants.{Refused}
use Rattle.fri_records.specs.Failures.{IfMalformed, MatchRequestError, MatchVerifyError}
use Rattle.fri_records.specs.Failures.{unread_request, failure_of}

pub no_truth : false ≡ true → ⊥
no_truth e = cc

pub given : {A E : Type 0} (Q R : E → Type 0) (r : Result A E) → IsErrAnd r Q
    → ((e : E) → Q e → R e) → IfErr r R
given Q R (Ok x) h weaker = tt
given Q R (Err e) h weaker = weaker e h

malformed_weaker : (P Q : Type 0) → (P → Q) → (e : ReadError) → IfMalformed P e → IfMalformed Q e
malformed_weaker P Q weaker (Malformed misfit) p = weaker p
malformed_weaker P Q weaker OutOfMemory p = tt

-- of a fault
pub malformed : {A : Type 0} (r : Result A ReadError) (misfit : Misfit) (P : Type 0)
    → IsErrAnd r (λ e. e ≡ Malformed misfit) → P → IfErr r (IfMalformed P)
malformed r misfit P gives p =
    given (λ e. e ≡ Malformed misfit) (IfMalformed P) r gives
    (λ e is. subst (λ f. IfMalformed P f) (sym is) p)

-- of want of memory
pub read_wants : {A : Type 0} (r : Result A ReadError) (P : Type 0)
    → IsErrAnd r (λ e. e ≡ OutOfMemory) → IfErr r (IfMalformed P)
read_wants r P gives =
    given (λ e. e ≡ OutOfMemory) (IfMalformed P) r gives
    (λ e is. subst (λ f. IfMalformed P f) (sym is) tt)

-- of the failure of a part
pub malformed_part : {A : Type 0} (r : Result A ReadError) (part : ReadError) (P Q : Type 0)
    → IsErrAnd r (λ e. e ≡ part) → IfMalformed P part → (P → Q) → IfErr r (IfMalformed Q)
malformed_part r part P Q gives p weaker =
    given (λ e. e ≡ part) (IfMalformed Q) r gives
    (λ e is. malformed_weaker P Q weaker e (subst (λ f. IfMalformed P f) (sym is) p))

-- of a record of a request
unread_fails : {E : Type 0} (P Q : Type 0) (R : E → Type 0) → (P → Q) → (e : ReadError)
    → IfMalformed P e → MatchRequestError Q R (unread_request e)
unread_fails P Q R weaker (Malformed misfit) p = weaker p
unread_fails P Q R weaker OutOfMemory p = tt

pub unread_part : {A E : Type 0} (r : Result A (RequestError E)) (part : ReadError) (P Q : Type 0)
    (R : E → Type 0) → IsErrAnd r (λ f. f ≡ unread_request part) → IfMalformed P part
    → (P → Q) → IfErr r (MatchRequestError Q R)
unread_part r part P Q R gives p weaker =
    given (λ f. f ≡ unread_request part) (MatchRequestError Q R) r gives
    (λ f is. subst (λ g. MatchRequestError Q R g) (sym is) (unread_fails P Q R weaker part p))

pub request_weaker : {E : Type 0} (P Q : Type 0) (R S : E → Type 0) → (P → Q)
    → ((e : E) → R e → S e) → (f : RequestError E)
    → MatchRequestError P R f → MatchRequestError Q S f
request_weaker P Q R S first second (request.Malformed misfit) h = first h
request_weaker P Q R S first second (request.Refused e) h = second e h
request_weaker P Q R S first second request.OutOfMemory h = tt

-- of a request's failure
pub request_part : {A E : Type 0} (r : Result A (RequestError E)) (part : RequestError E)
    (P Q : Type 0) (R S : E → Type 0) → IsErrAnd r (λ f. f ≡ part) → MatchRequestError P R part
    → (P → Q) → ((e : E) → R e → S e) → IfErr r (MatchRequestError Q S)
request_part r part P Q R S gives h first second =
    given (λ f. f ≡ part) (MatchRequestError Q S) r gives
    (λ f is. request_weaker P Q R S first second f
    (subst (λ g. MatchRequestError P R g) (sym is) h))

pub request_wants : {A E : Type 0} (r : Result A (RequestError E)) (P : Type 0)
    (R : E → Type 0) → IsErrAnd r (λ f. f ≡ request.OutOfMemory)
    → IfErr r (MatchRequestError P R)
request_wants r P R gives =
    given (λ f. f ≡ request.OutOfMemory) (MatchRequestError P R) r gives
    (λ f is. subst (λ g. MatchRequestError P R g) (sym is) tt)

-- a refusal that isn't want of memory stays one
failure_refused : (e : FriError Sha256MmcsError Sha256MmcsError) → e ≢ refusal.OutOfMemory
    → failure_of e ≡ Refused e
failure_refused refusal.OutOfMemory differs = absurd (differs refl)
failure_refused _ differs = refl

-- of a verifier's refusal, of which `R` holds where it isn't want of memory
pub refused_as : (P : Type 0) (R : FriError Sha256MmcsError Sha256MmcsError → Type 0)
    (e : FriError Sha256MmcsError Sha256MmcsError) (f : VerifyError) → f ≡ failure_of e
    → (e ≢ refusal.OutOfMemory → R e) → MatchVerifyError P R f
refused_as P R e f is holds =
    elim (memory_cases e) [
      | inl wants ↦ subst (λ g. MatchVerifyError P R g) (sym (is ∙ ap failure_of wants)) tt
      | inr differs ↦
          subst (λ g. MatchVerifyError P R g) (sym (is ∙ failure_refused e differs)) (holds differs)
    ]

pub statement_weaker : (P Q : Type 0) (R S : FriError Sha256MmcsError Sha256MmcsError → Type 0)
    → (P → Q) → ((e : FriError Sha256MmcsError Sha256MmcsError) → R e → S e) → (f : VerifyError)
    → MatchVerifyError P R f → MatchVerifyError Q S f
statement_weaker P Q R S first second (statement.Malformed misfit) h = first h
statement_weaker P Q R S first second (Refused e) h = second e h
statement_weaker P Q R S first second statement.OutOfMemory h = tt

-- of the failure of a part
pub refused_part : {A : Type 0} (r : Result A VerifyError) (part : VerifyError) (P Q : Type 0)
    (R S : FriError Sha256MmcsError Sha256MmcsError → Type 0) → IsErrAnd r (λ f. f ≡ part)
    → MatchVerifyError P R part → (P → Q)
    → ((e : FriError Sha256MmcsError Sha256MmcsError) → R e → S e) → IfErr r (MatchVerifyError Q S)
refused_part r part P Q R S gives h first second =
    given (λ f. f ≡ part) (MatchVerifyError Q S) r gives
    (λ f is. statement_weaker P Q R S first second f
    (subst (λ g. MatchVerifyError P R g) (sym is) h))

pub statement_wants : {A : Type 0} (r : Result A VerifyError) (P : Type 0)
    (R : FriError Sha256MmcsError Sha256MmcsError → Type 0)
    → IsErrAnd r (λ f. f ≡ statement.OutOfMemory) → IfErr r (MatchVerifyError P R)
statement_wants r P R gives =
    given (λ f. f ≡ statement.OutOfMemory) (MatchVerifyError P R) r gives
    (λ f is. subst (λ g. MatchVerifyError P R g) (sym is) tt)
