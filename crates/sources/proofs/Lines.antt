-- A line beside its plain book: they agree but in what objects of kinds 2 and 3 hold. Calls and transfers keep it so,
-- as long as what is written into transfer descriptors is told.
use Prim.Native.Nat.{ℕ, zero, suc, ◌≤◌, ◌<◌}
use mathlib.Core.Path.{◌≡◌, refl, sym, ap, ◌∙◌, subst}
use mathlib.Core.Logic.{◌⊎◌, inl, inr}
use mathlib.Core.List.{List, [], ◌∷◌, Memᴰ}
use mathlib.Core.Bool.{Bool, true, false, not, ◌&&◌, cond, beq, false≢true}
use native.Mathlib.Omega.{arith}
use lib.ListN.{length, get_or, set}
use lib.Dec.{eqb}
use borrow.Author.Tests.{eqb-true, eq-eqb}
use Rattle.model.specs.Base.{nth, put}
use Rattle.model.specs.Config.{kind_of, from1to, owns, descriptor, entries}
use Rattle.model.specs.State.{State, with_content, content_of, held, cleared, value_bytes}
use Rattle.model.specs.Closure.{Collected, start}
use Rattle.model.specs.Operation.{object_at, second_at, family_of, actor_of, read_operation}
use Rattle.model.specs.Effect.{apply, stores, item_bytes, source_bytes, cleared_by}
use Rattle.model.specs.Questions.{q13, is_kind, is_object, item_fits}
use Rattle.model.specs.Gate.{judged}
use Rattle.model.specs.Trace as Trace
use Rattle.model.specs.Trace.{CanRead, Transfer, Described, written_bytes, contents_after, after}
use Rattle.model.specs.Separation.{after_call}
use Rattle.sources.specs.Reports.{Harmless}
use Rattle.model.specs.declared.Family.{Family}
use Rattle.model.specs.declared.Family.TheVariants.{Write, Copy, Create, Destroy, Activate, Deactivate, Lock, Unlock}
use Rattle.model.specs.declared.Actor.{Actor}
use Rattle.model.specs.declared.Config.{Config}
use Rattle.model.specs.declared.Operation.{Operation}
use Rattle.model.proofs.Lists.{
  and_l,
  and_r,
  both_true,
  or_true,
  or_left,
  or_right,
  from1to-low,
  from1to-high,
  below_at,
  All,
  length_put,
  nth-put_cases,
  nth_number,
}
use Rattle.model.proofs.StateLaws.{Sixteen, apply_shape}
use Rattle.model.proofs.Facts.{Passed, passed}
use Rattle.sources.proofs.Stores.{Kept, same-confined, same-green}
use Rattle.model.proofs.Stores.{copy_kind, not_zero}
use Rattle.model.proofs.Formed.{items_exist}
use Rattle.sources.proofs.TraceLaws.{transfer-inside, transfer-kept}

-- the same store into two columns that agree at a place leaves them agreeing there
set_agree : {A : Type 0} (xs ys : List A) (i j : ℕ) (v w d : A) → length xs ≡ length ys → (i ≡ j → v ≡ w)
    → get_or xs j d ≡ get_or ys j d → get_or (set xs i v) j d ≡ get_or (set ys i w) j d
set_agree [] [] i j v w d l e h = h
set_agree [] (y ∷ ys) i j v w d l e h = absurd (omega arith)
set_agree (x ∷ xs) [] i j v w d l e h = absurd (omega arith)
set_agree (x ∷ xs) (y ∷ ys) zero zero v w d l e h = e refl
set_agree (x ∷ xs) (y ∷ ys) zero (suc j) v w d l e h = h
set_agree (x ∷ xs) (y ∷ ys) (suc i) zero v w d l e h = h
set_agree (x ∷ xs) (y ∷ ys) (suc i) (suc j) v w d l e h =
    set_agree xs ys i j v w d (omega arith) (λ q. e (ap suc q)) h

put_agree : {A : Type 0} (xs ys : List A) (k n : ℕ) (v w d : A) → length xs ≡ length ys → (k ≡ n → v ≡ w)
    → nth xs n d ≡ nth ys n d → nth (put xs k v) n d ≡ nth (put ys k w) n d
put_agree xs ys zero n v w d l e h = h
put_agree xs ys (suc k) zero v w d l e h = refl
put_agree xs ys (suc k) (suc n) v w d l e h = set_agree xs ys k n v w d l (λ q. e (ap suc q)) h

stores_agree : (place : ℕ → ℕ) (f g : ℕ → List ℕ) (k : ℕ) (xs ys : List (List ℕ)) (n : ℕ) (d : List ℕ)
    → length xs ≡ length ys → ((i : ℕ) → i < k → place i ≡ n → f i ≡ g i) → nth xs n d ≡ nth ys n d
    → (length (stores place f k xs) ≡ length (stores place g k ys))
    × (nth (stores place f k xs) n d ≡ nth (stores place g k ys) n d)
stores_agree place f g zero xs ys n d l e h = (l, h)
stores_agree place f g (suc k) xs ys n d l e h =
    let r = stores_agree place f g k xs ys n d l (λ i m. e i (omega arith)) h in (
      length_put (stores place f k xs) (place k) (f k)
          ∙ (r.0 ∙ sym (length_put (stores place g k ys) (place k) (g k))),
      put_agree (stores place f k xs) (stores place g k ys) (place k) n (f k) (g k) d r.0 (e k (omega arith)) r.1,
    )

-- what a line holds beside a plain book: it differs at most in contents, and there in no descriptor's
pub record Line (room : ℕ) (config : Config) (b m : State) : Type 0 where
  pub columns : m ≡ with_content b m.content
  pub size : length m.content ≡ room
  pub sixteen : All Sixteen m.content
  pub descriptors : (n : ℕ) → descriptor config n ≡ true → content_of m n ≡ content_of b n

module _ {room : ℕ} (config : Config) (b : State) (kept : Kept room config b) where
  -- the line then has what separation needs
  contents-kept : (cs : List (List ℕ)) → length cs ≡ room → All Sixteen cs
      → ((n : ℕ) → descriptor config n ≡ true → nth cs n cleared ≡ content_of b n) → Kept room config
      (with_content b cs)
  contents-kept cs size sixteen same =
      record {
        roomy = kept.roomy;
        shape = record {
          statuses = kept.shape.statuses;
          drivers = kept.shape.drivers;
          devices = kept.shape.devices;
          objects = kept.shape.objects;
          contents = size;
          sixteen = sixteen;
          locks = kept.shape.locks;
        };
        hardcoded = λ n x k.
            same n (both_true x (or_right (eqb (kind_of config n) 1) _ (eq-eqb (kind_of config n) 4 k)))
            ∙ kept.hardcoded n x k;
        together = kept.together;
        confines = same-confined config b kept (with_content b cs) refl refl holds;
        greens = same-green config b kept cs holds;
      }
    where
      holds : (o : ℕ) → descriptor config o && not (eqb (nth b.object o 0) 0) ≡ true
          → Collected config true b o (held (with_content b cs) o)
      holds o l = start l (ap (λ (c : List ℕ). get_or c 0 0) (sym (same o (and_l (descriptor config o) _ l))))

  pub line_kept : (m : State) → Line room config b m → Kept room config m
  line_kept m line =
      subst (Kept room config) (sym line.columns)
      (contents-kept m.content line.size line.sixteen line.descriptors)

  -- an accepted operation does the same to both
  module _ (op : Operation) (cs : List (List ℕ)) (size : length cs ≡ room) (sixteen : All Sixteen cs)
      (same : (n : ℕ) → descriptor config n ≡ true → nth cs n cleared ≡ content_of b n) where
    abbrev After : Family → Actor → Type 0
    After f a =
        (n : ℕ) → descriptor config n ≡ true
        → content_of (apply config op f a (with_content b cs)) n ≡ content_of (apply config op f a b) n

    long : length cs ≡ length b.content
    long = size ∙ sym kept.shape.contents

    -- a copy into a descriptor is from one
    copied : (a : Actor) → Passed config b op Copy a → (n i : ℕ) → descriptor config n ≡ true → i < op.count
        → second_at op i ≡ n → source_bytes op (with_content b cs) i ≡ source_bytes op b i
    unfolding q13
    copied a p n i dn l e =
        let x : from1to n config.counts.objects ≡ true = search and_l in
        let low = from1to-low n config.counts.objects x in
        let f = below_at op.count (item_fits config op Copy) p.p13 i l in
        let g =
        not_zero (second_at op i) n (not (is_kind config 4 (second_at op i))
        && beq (is_kind config 1 (object_at op i)) (is_kind config 1 (second_at op i)))
        e low (and_r (not (is_kind config 4 (object_at op i))) _ f) in
        let k1 : is_kind config 1 (object_at op i) ≡ true =
        back (is_kind config 1 (object_at op i)) (is_kind config 1 (second_at op i))
        (and_r (not (is_kind config 4 (second_at op i))) _ g)
        (subst (λ (y : ℕ). is_kind config 1 y ≡ true) (sym e)
        (one low (or_true (and_r (from1to n config.counts.objects) _ dn)))) in
        let s : is_object config (object_at op i) ≡ true =
        and_l (is_object config (object_at op i)) _ (items_exist config op Copy a p.p11 i l) in
        same (object_at op i) (both_true s (or_left (is_kind config 1 (object_at op i)) _ k1))
      where
        back : (s t : Bool) → beq s t ≡ true → t ≡ true → s ≡ true
        back true t h k = refl
        back false true h k = absurd (false≢true h)
        back false false h k = k

        one : 1 ≤ n → (eqb (kind_of config n) 1 ≡ true) ⊎ (eqb (kind_of config n) 4 ≡ true)
            → is_kind config 1 n ≡ true
        one low (inl h) = h
        one low (inr h) = absurd (copy_kind config op p.p13 i n l e low (eqb-true (kind_of config n) 4 h))

    step_same : (f : Family) (a : Actor) → Passed config b op f a → After f a
    unfolding apply
    step_same Write a p n dn =
        (stores_agree (object_at op) (item_bytes op) (item_bytes op) op.count cs b.content n cleared long
        (λ i l e. refl) (same n dn)).1
    step_same Copy a p n dn =
        (stores_agree (second_at op) (source_bytes op (with_content b cs)) (source_bytes op b) op.count cs b.content n
        cleared long (λ i l e. copied a p n i dn l e) (same n dn)).1
    step_same Create a p n dn = same n dn
    step_same Destroy a p n dn = same n dn
    step_same Activate a p n dn =
        let x : from1to n config.counts.objects ≡ true = search and_l in
        let low = from1to-low n config.counts.objects x in
        let high = from1to-high n config.counts.objects x in
        nth_number (cleared_by config op a) cs n cleared low (omega (arith, high, kept.roomy, size))
        ∙ (ap (cleared_by config op a n) (same n dn)
        ∙ sym (nth_number (cleared_by config op a) b.content n cleared low
        (omega (arith, high, kept.roomy, kept.shape.contents))))
    step_same Deactivate a p n dn = same n dn
    step_same Lock a p n dn = same n dn
    step_same Unlock a p n dn = same n dn

    step_columns : (f : Family) (a : Actor)
        → apply config op f a (with_content b cs)
        ≡ with_content (apply config op f a b) (apply config op f a (with_content b cs)).content
    unfolding apply
    step_columns Write a = refl
    step_columns Copy a = refl
    step_columns Create a = refl
    step_columns Destroy a = refl
    step_columns Activate a = refl
    step_columns Deactivate a = refl
    step_columns Lock a = refl
    step_columns Unlock a = refl

    step_line : (f : Family) (a : Actor) → Passed config b op f a
        → Line room config (apply config op f a b) (apply config op f a (with_content b cs))
    step_line f a p =
        let sh = apply_shape room config op f a (with_content b cs) (contents-kept cs size sixteen same).shape in
        record {
          columns = step_columns f a;
          size = sh.contents;
          sixteen = sh.sixteen;
          descriptors = step_same f a p;
        }

  -- a call
  pub call_line : (m : State) → Line room config b m → (bytes : List ℕ) (n : ℕ)
      → (n ≡ 0 → judged config (read_operation bytes).1 b ≡ 0)
      → Line room config (after_call config b bytes n) (after_call config m bytes n)
  call_line m line bytes zero h =
      let op = (read_operation bytes).1 in
      subst (λ (x : State). Line room config (after_call config b bytes 0) (after_call config x bytes 0))
      (sym line.columns)
      (step_line op m.content line.size line.sixteen line.descriptors (family_of op.code)
      (actor_of op.code) (passed config b op (family_of op.code) (actor_of op.code) (h refl)))
  call_line m line bytes (suc n) h = line

  -- what a device can read on the line, and the transfers that are described there, are so in the plain book
  module _ (cs : List (List ℕ)) (same : (n : ℕ) → descriptor config n ≡ true → nth cs n cleared ≡ content_of b n) where
    readable-descriptor : {c o : ℕ} → CanRead config (with_content b cs) c o → descriptor config o ≡ true
    readable-descriptor (Trace.own {c = c} {o = o} h k) =
        let w : owns config 2 c o ≡ true = and_r (eqb (kind_of config o) 4) (owns config 2 c o) k in
        let x : from1to o config.counts.objects ≡ true = search (and_l, and_r) in
        both_true x (or_right (eqb (kind_of config o) 1) (eqb (kind_of config o) 4)
        (and_l (eqb (kind_of config o) 4) (owns config 2 c o) k))
    readable-descriptor (Trace.next {p = p} e r m h l ep) = and_l (descriptor config p) _ l

    readable-held : {c o : ℕ} → CanRead config (with_content b cs) c o → held (with_content b cs) o ≡ held b o
    readable-held {c} {o} r = ap (λ (x : List ℕ). get_or x 0 0) (same o (readable-descriptor r))

    readable-book : {c o : ℕ} → CanRead config (with_content b cs) c o → CanRead config b c o
    readable-book (Trace.own h k) = Trace.own h k
    readable-book (Trace.next e r m h l ep) =
        Trace.next e (readable-book r) (subst (λ (v : ℕ). Memᴰ e (entries config v)) (readable-held r) m) h l ep

    described-book : (t : Transfer) → Described config (with_content b cs) t → Described config b t
    described-book t d =
        record {
          readable = readable-book d.readable;
          listed = subst (λ (v : ℕ). Memᴰ t.entry (entries config v)) (readable-held d.readable) d.listed;
          named = d.named;
          fits = d.fits;
          sixteen = d.sixteen;
        }

  pub line_described : (m : State) → Line room config b m → (t : Transfer) → Described config m t → Described config b t
  line_described m line t d =
      described-book m.content line.descriptors t
      (subst (λ (x : State). Described config x t) line.columns d)

  -- a transfer, told or not
  module _ (m : State) (line : Line room config b m) (t : Transfer) (d : Described config m t) where
    moved-kept : Kept room config (after config m t)
    moved-kept = transfer-kept config m (line_kept m line) t d

    no_4 : kind_of config t.object ≡ 4 → ⊥
    no_4 = (transfer-inside config m (line_kept m line) t d).1

    moved-columns : after config m t ≡ with_content b (after config m t).content
    moved-columns = ap (λ (x : State). with_content x (contents_after t.writing config m t)) line.columns

    pub untold_line : Harmless config t → Line room config b (after config m t)
    untold_line harmless =
        record {
          columns = moved-columns;
          size = moved-kept.shape.contents;
          sixteen = moved-kept.shape.sixteen;
          descriptors = λ n dn. go t.writing refl n dn ∙ line.descriptors n dn;
        }
      where
        not_there : t.writing ≡ true → (n : ℕ) → descriptor config n ≡ true → n ≡ t.object → ⊥
        not_there w n dn e = pick (or_true (and_r (from1to n config.counts.objects) _ dn))
          where
            pick : (eqb (kind_of config n) 1 ≡ true) ⊎ (eqb (kind_of config n) 4 ≡ true) → ⊥
            pick (inl k) = harmless w (ap (kind_of config) (sym e) ∙ eqb-true (kind_of config n) 1 k)
            pick (inr k) = no_4 (ap (kind_of config) (sym e) ∙ eqb-true (kind_of config n) 4 k)

        go : (w : Bool) → t.writing ≡ w → (n : ℕ) → descriptor config n ≡ true
            → nth (contents_after w config m t) n cleared ≡ content_of m n
        go false e n dn = refl
        go true e n dn = pick (nth-put_cases m.content t.object n (written_bytes config m t) cleared)
          where
            pick : ((n ≡ t.object) × (nth (contents_after true config m t) n cleared ≡ written_bytes config m t))
                ⊎ (nth (contents_after true config m t) n cleared ≡ content_of m n)
                → nth (contents_after true config m t) n cleared ≡ content_of m n
            pick (inl (q, v)) = absurd (not_there e n dn q)
            pick (inr v) = v

    pub told_line : Line room config (after config b t) (after config m t)
    told_line =
        record {
          columns = moved-columns;
          size = moved-kept.shape.contents;
          sixteen = moved-kept.shape.sixteen;
          descriptors = λ n dn. go t.writing n dn;
        }
      where
        written : written_bytes config m t ≡ written_bytes config b t
        written = pick (eqb (kind_of config t.object) 4) refl
          where
            pick : (k : Bool) → eqb (kind_of config t.object) 4 ≡ k
                → cond (eqb (kind_of config t.object) 1) (value_bytes t.entry.value)
                (cond k (content_of m t.object) t.bytes)
                ≡ cond (eqb (kind_of config t.object) 1) (value_bytes t.entry.value)
                (cond k (content_of b t.object) t.bytes)
            pick true e = absurd (no_4 (eqb-true (kind_of config t.object) 4 e))
            pick false e = refl

        go : (w : Bool) (n : ℕ) → descriptor config n ≡ true
            → nth (contents_after w config m t) n cleared ≡ nth (contents_after w config b t) n cleared
        go false n dn = line.descriptors n dn
        go true n dn =
            put_agree m.content b.content t.object n (written_bytes config m t) (written_bytes config b t)
            cleared (line.size ∙ sym kept.shape.contents) (λ e. written) (line.descriptors n dn)
