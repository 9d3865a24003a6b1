-- A reader over the bytes of an operation, and what it reads.
use Rattle.std.specs.Prelude.{ℕ, ◌+◌, ◌≤◌, ◌<◌, ◌≡◌, List, Option, None, Some, length, take, drop}
use Rattle.std.specs.Borrow.{Bor}
use Rattle.model.specs.State.{content_bytes}
use Rattle.model.specs.Operation.{read, refused}
use Rattle.model.specs.declared.Fault.{Fault}
use Rattle.model.specs.declared.Operation.{Operation}
use Rattle.model.specs.Num.{Num, Got, Bad}
use Rattle.model.specs.Parse.{Parse}
use Rattle.operation.specs.declared.reader.Reader.{Reader}

-- over the bytes src, at place at
abbrev pub reader_at : Bor (List ℕ) → ℕ → Reader
reader_at src at = record { src = src; at = at }

-- a number was read, up to `next`; or none can be
abbrev pub Reads : Option ℕ → ℕ → Num → Type 0
Reads (Some v) next n = n ≡ Got v next
Reads None next n = (f : Fault) × (n ≡ Bad f)

-- the sixteen bytes of s from place at on were read, up to `next`; or so many are not there
abbrev pub ReadsRaw : Option (Bor (List ℕ)) → ℕ → List ℕ → ℕ → Type 0
ReadsRaw (Some x) next s at =
    (at + content_bytes ≤ length s) × (x.now ≡ take content_bytes (drop at s)) × (next ≡ at + content_bytes)
ReadsRaw None next s at = length s < at + content_bytes

-- an operation was read up to `next`, or could not be
abbrev pub read_to : Option Operation → ℕ → Parse
read_to (Some op) next = read next op
read_to None next = refused

-- an operation was read on up to `next`, or could not be
abbrev pub read_on : Option Unit → ℕ → Operation → Parse
read_on (Some u) next op = read next op
read_on None next op = refused
