-- Document 01, 'Operation records' and 'Lists of calls, and runs', and document 02, N5 and N6: what an accepted call
-- sets, code by code, and that all else stays, told of the states that the area shows before and after. Nothing here
-- names `apply`; a request that adds a code adds a row.
use Rattle.std.specs.Prelude.{ℕ, ◌<◌, ◌≡◌, ◌⊎◌, List, true}
use Rattle.model.specs.Config.{kind_of, class_of, owner_of, from1to}
use Rattle.model.specs.State.{
  State,
  with_status,
  with_content,
  with_lock,
  plain_status,
  green_status,
  status_of,
  driver_in,
  device_in,
  object_in,
  lock_of,
  content_of,
  cleared,
  view,
}
use Rattle.model.specs.Operation.{green_code, lock_code, unlock_code, object_at, second_at, read_operation}
use Rattle.model.specs.Effect.{item_bytes}
use Rattle.sources.specs.Gate.{Source, config_of, file_source, fresh_on, operate_on}
use Rattle.model.specs.Separation.{Call, after_call}
use Rattle.sources.specs.Separation.{area_after, final}
use Rattle.model.specs.declared.Actor.{Actor}
use Rattle.model.specs.declared.Actor.TheVariants.{Driver, Device, External}
use Rattle.model.specs.declared.Config.{Config}
use Rattle.model.specs.declared.Operation.{Operation}

-- codes 1 and 2, 'a write stores its items': an item's object holds the item's bytes, all else stays
pub record StoresItems (op : Operation) (b b' : State) : Type 0 where
  pub only : b' ≡ with_content b b'.content
  pub stored : (i : ℕ) → i < op.count → content_of b' (object_at op i) ≡ item_bytes op i
  pub others : (n : ℕ) → ((i : ℕ) → i < op.count → object_at op i ≡ n → ⊥) → content_of b' n ≡ content_of b n

-- codes 3 and 4, 'copies each to its destination; all sources are read before anything is stored': a destination holds
-- what its source held before the call, all else stays
pub record CopiesSources (op : Operation) (b b' : State) : Type 0 where
  pub only : b' ≡ with_content b b'.content
  pub copied : (i : ℕ) → i < op.count → (second_at op i ≡ 0 → ⊥)
      → content_of b' (second_at op i) ≡ content_of b (object_at op i)
  pub others : (n : ℕ) → ((i : ℕ) → i < op.count → second_at op i ≡ n → ⊥) → content_of b' n ≡ content_of b n

-- codes 5, 13 and 6: the partition's status (document 01: standing) is s, all else stays
pub record SetsStatus (op : Operation) (s : ℕ) (b b' : State) : Type 0 where
  pub only : b' ≡ with_status b b'.status
  pub this : status_of b' op.partition ≡ s
  pub others : (p : ℕ) → (p ≡ op.partition → ⊥) → status_of b' p ≡ status_of b p

-- codes 14 and 15: the device's lock is v, all else stays
pub record SetsLock (op : Operation) (v : ℕ) (b b' : State) : Type 0 where
  pub only : b' ≡ with_lock b b'.lock
  pub this : lock_of b' op.subject ≡ v
  pub others : (c : ℕ) → (c ≡ op.subject → ⊥) → lock_of b' c ≡ lock_of b c

-- codes 7 to 12: the objects concerned, those that the driver or the device owns, or those that are listed
abbrev pub Owned : Config → ℕ → ℕ → ℕ → Type 0
Owned config class k n =
    (from1to n config.counts.objects ≡ true) × (class_of config n ≡ class) × (owner_of config n ≡ k)

abbrev pub Concerned : Config → Operation → Actor → ℕ → Type 0
Concerned config op Driver n = Owned config 1 op.subject n
Concerned config op Device n = Owned config 2 op.subject n
Concerned config op External n = (i : ℕ) × (i < op.count) × (object_at op i ≡ n)

-- codes 7 to 12: the partitions of drivers and of devices
abbrev pub DriversAfter : Operation → Actor → ℕ → State → State → Type 0
DriversAfter op Driver p b b' =
    (driver_in b' op.subject ≡ p) × ((d : ℕ) → (d ≡ op.subject → ⊥) → driver_in b' d ≡ driver_in b d)
DriversAfter op Device p b b' = b'.driver ≡ b.driver
DriversAfter op External p b b' = b'.driver ≡ b.driver

abbrev pub DevicesAfter : Operation → Actor → ℕ → State → State → Type 0
DevicesAfter op Driver p b b' = b'.device ≡ b.device
DevicesAfter op Device p b b' =
    (device_in b' op.subject ≡ p) × ((c : ℕ) → (c ≡ op.subject → ⊥) → device_in b' c ≡ device_in b c)
DevicesAfter op External p b b' = b'.device ≡ b.device

-- codes 7 to 12: the driver or the device, and the objects concerned, are in p; status and locks stay
pub record Moves (config : Config) (op : Operation) (a : Actor) (p : ℕ) (b b' : State) : Type 0 where
  pub status : b'.status ≡ b.status
  pub locks : b'.lock ≡ b.lock
  pub drivers : DriversAfter op a p b b'
  pub devices : DevicesAfter op a p b b'
  pub concerned : (n : ℕ) → Concerned config op a n → object_in b' n ≡ p
  pub others : (n : ℕ) → (Concerned config op a n → ⊥) → object_in b' n ≡ object_in b n

-- codes 7 to 9, 'activation sets the partition and clears all objects concerned but kind 4'
pub record Activates (config : Config) (op : Operation) (a : Actor) (b b' : State) : Type 0 where
  pub moves : Moves config op a op.partition b b'
  pub clears : (n : ℕ) → Concerned config op a n → (kind_of config n ≡ 4 → ⊥) → content_of b' n ≡ cleared
  pub hardcoded : (n : ℕ) → kind_of config n ≡ 4 → content_of b' n ≡ content_of b n
  pub others : (n : ℕ) → (Concerned config op a n → ⊥) → content_of b' n ≡ content_of b n

-- codes 10 to 12, 'deactivation sets partition 0 and keeps contents'
pub record Deactivates (config : Config) (op : Operation) (a : Actor) (b b' : State) : Type 0 where
  pub moves : Moves config op a 0 b b'
  pub contents : b'.content ≡ b.content

-- an accepted operation, code by code
pub record Effects (config : Config) (op : Operation) (b b' : State) : Type 0 where
  pub write : (op.code ≡ 1) ⊎ (op.code ≡ 2) → StoresItems op b b'
  pub copy : (op.code ≡ 3) ⊎ (op.code ≡ 4) → CopiesSources op b b'
  pub create : op.code ≡ 5 → SetsStatus op plain_status b b'
  pub destroy : op.code ≡ 6 → SetsStatus op 2 b b'
  pub driver_in_lem : op.code ≡ 7 → Activates config op Driver b b'
  pub device_in_lem : op.code ≡ 8 → Activates config op Device b b'
  pub objects_in : op.code ≡ 9 → Activates config op External b b'
  pub driver_out : op.code ≡ 10 → Deactivates config op Driver b b'
  pub device_out : op.code ≡ 11 → Deactivates config op Device b b'
  pub objects_out : op.code ≡ 12 → Deactivates config op External b b'
  pub create_green : op.code ≡ green_code → SetsStatus op green_status b b'
  pub lock : op.code ≡ lock_code → SetsLock op 1 b b'
  pub unlock : op.code ≡ unlock_code → SetsLock op 0 b b'

-- of every accepted call, whatever the area held: the states that the area shows before and after
abbrev pub CallEffectsOn : Source → Type 0
CallEffectsOn source =
    (area bytes answer : List ℕ) → (operate_on source area bytes answer).0 ≡ 0
    → Effects (config_of source) (read_operation bytes).1 (view source.room area)
    (view source.room (operate_on source area bytes answer).1)

abbrev pub CallEffects : Type 0
CallEffects = (file : List ℕ) → CallEffectsOn (file_source file)

-- so of the plain book, for every list of calls from a fresh state and the next that is accepted
abbrev pub BookEffectsOn : Source → Type 0
BookEffectsOn source =
    (area : List ℕ) → (fresh_on source area).0 ≡ 0 → (calls : List Call) (bytes answer : List ℕ)
    → (operate_on source (area_after source (fresh_on source area).1 calls) bytes answer).0 ≡ 0
    → Effects (config_of source) (read_operation bytes).1 (final source (fresh_on source area).1 calls)
    (after_call (config_of source) (final source (fresh_on source area).1 calls) bytes 0)

abbrev pub BookEffects : Type 0
BookEffects = (file : List ℕ) → BookEffectsOn (file_source file)
