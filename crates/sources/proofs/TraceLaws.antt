-- Traces: each transfer touches an object of its device's partition, and what separation needs is kept.
use Prim.Native.Nat.{ℕ}
use mathlib.Core.Path.{◌≡◌, refl, sym, ap, ◌∙◌, subst}
use mathlib.Core.Logic.{◌⊎◌, inl, inr}
use mathlib.Core.List.{List, [], ◌∷◌}
use mathlib.Core.Bool.{Bool, true, false, not, ◌||◌, cond, false≢true}
use lib.ListN.{length, get_or}
use lib.Dec.{eqb}
use borrow.Author.Tests.{eq-eqb}
use Rattle.model.specs.Base.{nth}
use Rattle.model.specs.Config.{kind_of, owner_of, hardcoded_of, owns, from1to, hardcoded_to}
use Rattle.model.specs.State.{content_bytes, State, device_in, object_in, content_of, held, cleared, value_bytes}
use Rattle.model.specs.Closure.{active, live, Collected, Reads, start, stored}
use Rattle.model.specs.Trace.{Transfer, fitting, Described, written_bytes, contents_after, after, Traces}
use Rattle.model.specs.Separation.{Contained}
use Rattle.model.specs.declared.Config.{Config}
use Rattle.model.proofs.Lists.{and_l, and_r, both_true, nth-put_cases, length_put, All, all-put}
use Rattle.model.proofs.Confinement.{readable-reads}
use Rattle.model.proofs.StateLaws.{Sixteen, content-sixteen}
use Rattle.sources.proofs.Stores.{Kept, same-confined, same-green}
use Rattle.model.proofs.Stores.{kind_1}

-- one transfer
module _ {room : ℕ} (config : Config) (b : State) (kept : Kept room config b) where
  -- an active device's hardcoded descriptor is active
  pub hardcoded-live : (c x : ℕ) → active b c ≡ true → hardcoded_to config c x ≡ true → live config b x ≡ true
  hardcoded-live c x h w =
      let o : owns config 2 c x ≡ true = and_r (eqb (kind_of config x) 4) (owns config 2 c x) w in
      let k : eqb (kind_of config x) 4 ≡ true = and_l (eqb (kind_of config x) 4) (owns config 2 c x) w in
      let i : from1to x config.counts.objects ≡ true = search (and_l, and_r) in
      both_true (both_true i (either (eqb (kind_of config x) 1) k))
      (subst (λ (y : ℕ). not (eqb y 0) ≡ true) (sym (kept.together c x o)) h)
    where
      either : (s : Bool) {t : Bool} → t ≡ true → s || t ≡ true
      either true k = refl
      either false k = k

  -- the entry that describes a transfer is in the closure
  transfer-reads : (t : Transfer) → Described config b t
      → Reads config true b t.device t.descriptor (held b t.descriptor)
  transfer-reads t d = readable-reads config b hardcoded-live d.readable

  pub transfer-inside : (t : Transfer) → Described config b t
      → (object_in b t.object ≡ device_in b t.device) × (kind_of config t.object ≡ 4 → ⊥)
  transfer-inside t d =
      let q =
      kept.confines t.device t.descriptor (held b t.descriptor) (transfer-reads t d) t.entry d.listed in
      (ap (object_in b) (sym d.named) ∙ q.1, λ k. q.0 (ap (kind_of config) d.named ∙ k))

  -- what a write leaves in the object
  abbrev Written : Transfer → List ℕ → Type 0
  Written t c = (kind_of config t.object ≡ 1 → c ≡ value_bytes t.entry.value) × (length c ≡ content_bytes)

  bytes-written : (t : Transfer) → Described config b t → Written t (written_bytes config b t)
  bytes-written t d = go (eqb (kind_of config t.object) 1) (eqb (kind_of config t.object) 4) refl
    where
      go : (s r : Bool) → eqb (kind_of config t.object) 1 ≡ s
          → Written t (cond s (value_bytes t.entry.value) (cond r (content_of b t.object) t.bytes))
      go true r e = ((λ k. refl), refl)
      go false true e = (
        (λ k. absurd (false≢true (sym e ∙ eq-eqb (kind_of config t.object) 1 k))),
        content-sixteen room b kept.shape t.object,
      )
      go false false e = ((λ k. absurd (false≢true (sym e ∙ eq-eqb (kind_of config t.object) 1 k))), d.sixteen)

  -- contents after a transfer: written by it, or as before
  abbrev After : Bool → Transfer → ℕ → Type 0
  After w t n =
      ((w ≡ true) × (n ≡ t.object) × (nth (contents_after w config b t) n cleared ≡ written_bytes config b t))
      ⊎ (nth (contents_after w config b t) n cleared ≡ content_of b n)

  after_cases : (w : Bool) (t : Transfer) (n : ℕ) → After w t n
  after_cases true t n = go (nth-put_cases b.content t.object n (written_bytes config b t) cleared)
    where
      go : ((n ≡ t.object) × (nth (contents_after true config b t) n cleared ≡ written_bytes config b t))
          ⊎ (nth (contents_after true config b t) n cleared ≡ content_of b n)
          → After true t n
      go (inl (e, v)) = inl (refl, e, v)
      go (inr v) = inr v
  after_cases false t n = inr refl

  after_shape : (w : Bool) (t : Transfer) → Described config b t
      → (length (contents_after w config b t) ≡ room) × All Sixteen (contents_after w config b t)
  after_shape true t d = (
    length_put b.content t.object (written_bytes config b t) ∙ kept.shape.contents,
    all-put Sixteen b.content t.object (written_bytes config b t) (bytes-written t d).1 kept.shape.sixteen,
  )
  after_shape false t d = (kept.shape.contents, kept.shape.sixteen)

  pub transfer-kept : (t : Transfer) → Described config b t → Kept room config (after config b t)
  transfer-kept t d =
      let q = after_shape t.writing t d in
      record {
        roomy = kept.roomy;
        shape = record {
          statuses = kept.shape.statuses;
          drivers = kept.shape.drivers;
          devices = kept.shape.devices;
          objects = kept.shape.objects;
          contents = q.0;
          sixteen = q.1;
          locks = kept.shape.locks;
        };
        hardcoded = λ n x k. hard n x k (after_cases t.writing t n);
        together = kept.together;
        confines = same-confined config b kept (after config b t) refl refl
            (λ o l. reached o l (after_cases t.writing t o));
        greens = same-green config b kept (contents_after t.writing config b t)
            (λ o l. reached o l (after_cases t.writing t o));
      }
    where
      hard : (n : ℕ) → from1to n config.counts.objects ≡ true → kind_of config n ≡ 4 → After t.writing t n
          → nth (contents_after t.writing config b t) n cleared ≡ value_bytes (hardcoded_of config (owner_of config n))
      hard n x k (inl (w, e, v)) = absurd ((transfer-inside t d).1 (ap (kind_of config) (sym e) ∙ k))
      hard n x k (inr v) = v ∙ kept.hardcoded n x k

      reached : (o : ℕ) → live config b o ≡ true → After t.writing t o
          → Collected config true b o (held (after config b t) o)
      reached o l (inr v) = start l (ap (λ (c : List ℕ). get_or c 0 0) (sym v))
      reached o l (inl (w, e, v)) =
          let k : kind_of config t.object ≡ 1 =
          ap (kind_of config) (sym e) ∙ kind_1 config b o l
          (λ z. (transfer-inside t d).1 (ap (kind_of config) (sym e) ∙ z)) in
          stored refl t.entry (transfer-reads t d) d.listed
          (subst (λ (s : Bool). fitting s t.entry ≡ true) w d.fits)
          (ap (kind_of config) d.named ∙ k) (d.named ∙ sym e)
          (sym (ap (λ (c : List ℕ). get_or c 0 0) (v ∙ (bytes-written t d).0 k)))

-- a trace
pub trace_contained : {room : ℕ} (config : Config) (trace : List Transfer) (b : State) → Kept room config b
    → Traces config b trace → Contained config b trace
trace_contained config [] b kept rs = tt
trace_contained config (t ∷ ts) b kept rs =
    let i = transfer-inside config b kept t rs.0 in
    let k = transfer-kept config b kept t rs.0 in
    (i.0, i.1, k.hardcoded, trace_contained config ts (after config b t) k rs.1)
