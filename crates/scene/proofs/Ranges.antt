-- The tests of specs/Rules at numbers that are in range are the model's, and so is entry j of a value.
use Prim.Native.Nat.{ℕ, zero, suc, ◌≤◌}
use native.Mathlib.Omega.{arith}
use mathlib.Core.Path.{◌≡◌, refl, sym, ap, subst, ◌∙◌}
use mathlib.Core.Logic.{◌⊎◌, inl, inr}
use mathlib.Core.Bool.{Bool, true, not, ◌&&◌, false≢true}
use mathlib.Core.List.{List, [], ◌∷◌, Memᴰ}
use lib.Dec.{eqb}
use lib.ListN.{get_or, drop}
use lib.Seq.{get_or-drop}
use borrow.Author.Tests.{eqb-true, eq-eqb, ne_eqb}
use Rattle.model.specs.Config.{
  kind_of,
  class_of,
  owner_of,
  from1to,
  owns,
  descriptor,
  hardcoded_to,
  Entry,
  reads,
  writes,
  most_mode,
  entry_place,
  entries,
}
use Rattle.model.specs.State.{content_bytes, State, object_in, held, window, content_place, view}
use Rattle.model.specs.Closure.{active, live}
use Rattle.model.specs.declared.Config.{Config}
use Rattle.model.proofs.Lists.{and_l, and_r, both_true, from1to-low, from1to-high, from1to_intro}
use Rattle.model.proofs.Facts.{owns-low, owns-high, owns-class, owns-owner}
use Rattle.model.proofs.Entries.{entry_mem}
use Rattle.model.proofs.StateBytes.{content-bytes}
use Rattle.scene.specs.Rules.{holds_value, reads_mode, writes_mode, opens, stores, starts, owned}
use Rattle.scene.specs.Scene.{Scene, entry_of, count_of, In, EntryOk, ValuesOk, OwnersOk, Owners}

pub of_in : {n k : ℕ} → In n k → from1to k n ≡ true
of_in {n} {k} h = from1to_intro k n h.low h.high

pub in_of : (n k : ℕ) → from1to k n ≡ true → In n k
in_of n k h = record { low = from1to-low k n h; high = from1to-high k n h }

-- an active descriptor and a hardcoded one are objects
module _ (config : Config) where
  pub live-object : (b : State) (o : ℕ) → live config b o ≡ true → In config.counts.objects o
  live-object b o h = in_of config.counts.objects o (search (and_l, and_r))

  owns_of : (c o : ℕ) → hardcoded_to config c o ≡ true → owns config 2 c o ≡ true
  owns_of c o h = and_r (eqb (kind_of config o) 4) (owns config 2 c o) h

  pub hardcoded-object : (c o : ℕ) → hardcoded_to config c o ≡ true → In config.counts.objects o
  hardcoded-object c o h =
      record { low = owns-low config 2 c o (owns_of c o h); high = owns-high config 2 c o (owns_of c o h) }

  pub hardcoded-class : (c o : ℕ) → hardcoded_to config c o ≡ true → class_of config o ≡ 2
  hardcoded-class c o h = owns-class config 2 c o (owns_of c o h)

  pub hardcoded-owner : (c o : ℕ) → hardcoded_to config c o ≡ true → owner_of config o ≡ c
  hardcoded-owner c o h = owns-owner config 2 c o (owns_of c o h)

  -- an entry that opens a descriptor
  pub opens-reads : (e : Entry) → opens config.objects.kind e ≡ true → reads e ≡ true
  unfolding opens
  opens-reads e h = and_l (reads e) (holds_value (kind_of config e.object)) h

  pub opens-descriptor : (e : Entry) → In config.counts.objects e.object → opens config.objects.kind e ≡ true
      → descriptor config e.object ≡ true
  unfolding opens
  opens-descriptor e i h = both_true (of_in i) (and_r (reads e) (holds_value (kind_of config e.object)) h)

  pub opens_of : (e : Entry) → reads e ≡ true → descriptor config e.object ≡ true
      → opens config.objects.kind e ≡ true
  unfolding opens
  opens_of e r d =
      both_true r (and_r (from1to e.object config.counts.objects) (holds_value (kind_of config e.object)) d)

  -- an entry that stores a value
  module _ (storing : Bool) (e : Entry) where
    pub stores_on : stores config.objects.kind storing e ≡ true → storing ≡ true
    unfolding stores
    stores_on h = search (and_l, and_r)

    pub stores-writes : stores config.objects.kind storing e ≡ true → writes e ≡ true
    unfolding stores
    stores-writes h = search (and_l, and_r)

    pub stores-kind : stores config.objects.kind storing e ≡ true → kind_of config e.object ≡ 1
    unfolding stores
    stores-kind h = eqb-true (kind_of config e.object) 1 (and_r (storing && writes e) _ h)

    pub stores_of : storing ≡ true → writes e ≡ true → kind_of config e.object ≡ 1
        → stores config.objects.kind storing e ≡ true
    unfolding stores
    stores_of s w k = both_true (both_true s w) (eq-eqb (kind_of config e.object) 1 k)

  -- a descriptor by which a search starts
  pub live_test : (b : State) (o : ℕ) → In config.counts.objects o
      → live config b o ≡ starts config.objects.kind b o
  unfolding starts
  live_test b o i = rw (of_in i)

  module _ (b : State) (c o : ℕ) where
    abbrev is_owned : Bool
    is_owned = owned config.objects.kind config.objects.class config.objects.owner b c o

    abbrev fits : Bool
    fits = eqb (kind_of config o) 4 && eqb (class_of config o) 2 && eqb (owner_of config o) c

    pub owned-active : is_owned ≡ true → active b c ≡ true
    unfolding owned
    owned-active h = and_l (active b c) fits h

    owned-fits : is_owned ≡ true → fits ≡ true
    unfolding owned
    owned-fits h = and_r (active b c) fits h

    fits-kind : fits ≡ true → eqb (kind_of config o) 4 ≡ true
    fits-kind h = search (and_l, and_r)

    fits-class : fits ≡ true → eqb (class_of config o) 2 ≡ true
    fits-class h = search (and_l, and_r)

    fits-owner : fits ≡ true → eqb (owner_of config o) c ≡ true
    fits-owner h = search (and_l, and_r)

    pub owned-kind : is_owned ≡ true → kind_of config o ≡ 4
    owned-kind h = eqb-true (kind_of config o) 4 (fits-kind (owned-fits h))

    pub owned-class : is_owned ≡ true → class_of config o ≡ 2
    owned-class h = eqb-true (class_of config o) 2 (fits-class (owned-fits h))

    pub owned-owner : is_owned ≡ true → owner_of config o ≡ c
    owned-owner h = eqb-true (owner_of config o) c (fits-owner (owned-fits h))

    pub owned-hardcoded : In config.counts.objects o → is_owned ≡ true → hardcoded_to config c o ≡ true
    owned-hardcoded i h =
        let f = owned-fits h in
        both_true (fits-kind f) (both_true (both_true (of_in i) (fits-class f)) (fits-owner f))

    pub owned_of : active b c ≡ true → hardcoded_to config c o ≡ true → is_owned ≡ true
    unfolding owned
    owned_of a h =
        let kind : eqb (kind_of config o) 4 ≡ true = and_l (eqb (kind_of config o) 4) (owns config 2 c o) h in
        both_true a
        (both_true (both_true kind (eq-eqb (class_of config o) 2 (hardcoded-class c o h)))
        (eq-eqb (owner_of config o) c (hardcoded-owner c o h)))

pub starts_holds : (kind : List ℕ) (b : State) (o : ℕ) → starts kind b o ≡ true → holds_value (get_or kind o 0) ≡ true
unfolding starts
starts_holds kind b o h = and_l (holds_value (get_or kind o 0)) (not (eqb (object_in b o) 0)) h

-- entry j of value v is one of its entries
pub entry-there : (m : Scene) → count_of m 0 ≡ 0 → (v j : ℕ) → In (count_of m v) j
    → Memᴰ (entry_of m v j) (entries m.config v)
entry-there m none zero j h = absurd (omega arith)
entry-there m none (suc v) j h = entry_mem m.config (suc v) j (omega arith) h.low h.high

-- its bytes are in the table, and it names what exists
pub entry_ok_lem : {config : Config} → ValuesOk config → (v j : ℕ) → v ≤ config.counts.values
    → In (get_or config.values.count v 0) j → EntryOk config.values.entries (entry_place v j)
entry_ok_lem k v j p q =
    record {
      place = omega (arith, k.few-values, k.few-entries v p, q.high);
      object = omega (arith, k.few-objects, (k.object_known v j p q).high);
      mode = k.mode_known v j p q;
      stored = omega (arith, k.few-values, k.stored_known v j p q);
    }

-- the first byte of a descriptor's contents is the value that it holds
pub held_byte : (room : ℕ) (area : List ℕ) (o : ℕ) → In room o
    → held (view room area) o ≡ get_or area (content_place o) 0
held_byte room area o i =
    ap (λ (c : List ℕ). get_or c 0 0) (content-bytes room area o i.low i.high)
    ∙ (first (drop (content_place o) area)
    ∙ (get_or-drop (content_place o) area 0 0 ∙ ap (λ (x : ℕ). get_or area x 0) (omega arith)))
  where
    first : (l : List ℕ) → get_or (window content_bytes l) 0 0 ≡ get_or l 0 0
    first [] = refl
    first (x ∷ l) = refl

-- of the three modes those that read are all but one, and so are those that write
pub mode-reads : (mode : ℕ) → In most_mode mode → not (eqb mode 2) ≡ reads_mode mode
mode-reads zero i = absurd (omega (arith, i.low))
mode-reads (suc zero) i = refl
mode-reads (suc (suc zero)) i = refl
mode-reads (suc (suc (suc zero))) i = refl
mode-reads (suc (suc (suc (suc n)))) i = absurd (omega (arith, i.high))

pub mode-writes : (mode : ℕ) → In most_mode mode → not (eqb mode 1) ≡ writes_mode mode
mode-writes zero i = absurd (omega (arith, i.low))
mode-writes (suc zero) i = refl
mode-writes (suc (suc zero)) i = refl
mode-writes (suc (suc (suc zero))) i = refl
mode-writes (suc (suc (suc (suc n)))) i = absurd (omega (arith, i.high))

-- the device that a hardcoded descriptor belongs to is one of the configuration
pub owners_of : (m : Scene) → OwnersOk m.config → Owners m
owners_of m ok c o h =
    subst (λ (c : ℕ). In m.config.counts.devices c) (hardcoded-owner m.config c o h)
    (ok.device_known o (hardcoded-object m.config c o h) (hardcoded-class m.config c o h))

-- an object that starts with the value that it holds
pub starts_of : (kind : List ℕ) (b : State) (o p : ℕ) → p ≡ object_in b o → holds_value (get_or kind o 0) ≡ true
    → (p ≡ 0 → ⊥) → starts kind b o ≡ true
unfolding starts
starts_of kind b o p is h ne = both_true h (ap not (ne_eqb (object_in b o) 0 (λ e. ne (is ∙ e))))

pub starts_not : (kind : List ℕ) (b : State) (o p : ℕ) → p ≡ object_in b o → p ≡ 0 → starts kind b o ≡ true → ⊥
unfolding starts
starts_not kind b o p is e h =
    false≢true (sym (ap not (eq-eqb (object_in b o) 0 (sym is ∙ e)))
    ∙ and_r (holds_value (get_or kind o 0)) (not (eqb (object_in b o) 0)) h)

-- an object that holds no value is nobody's
pub starts_never : (kind : List ℕ) (b : State) (o : ℕ) → (get_or kind o 0 ≡ 1 → ⊥) → (get_or kind o 0 ≡ 4 → ⊥)
    → starts kind b o ≡ true → ⊥
unfolding starts
starts_never kind b o p q h =
    false≢true (sym (rw (ne_eqb (get_or kind o 0) 1 p, ne_eqb (get_or kind o 0) 4 q) refl)
    ∙ and_l (holds_value (get_or kind o 0)) (not (eqb (object_in b o) 0)) h)

pub holds_kind : (k : ℕ) → (k ≡ 1) ⊎ (k ≡ 4) → holds_value k ≡ true
holds_kind k (inl e) = rw e refl
holds_kind k (inr e) = rw e refl
