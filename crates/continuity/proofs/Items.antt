-- The reader of operations, followed number by number and item by item: where it ends is told by the numbers that it
-- read, and a reader with a smaller limit that all of them are within reads the same.
use Prim.Native.Nat.{ℕ, zero, suc, ◌+◌, ◌≤◌}
use mathlib.Core.Path.{◌≡◌, refl, sym, ap, ◌∙◌, subst}
use mathlib.Core.List.{List, [], ◌∷◌}
use mathlib.Core.Bool.{Bool, true, false, cond, ◌&&◌, true≢false}
use native.Mathlib.Omega.{arith}
use lib.ListN.{length, take, drop, set}
use lib.Dec.{leb, eqb}
use borrow.Author.Tests.{leb-true, le-leb, eqb-true}
use Rattle.model.specs.Number.{number_to, bytes_to}
use Rattle.model.specs.State.{content_bytes}
use Rattle.model.specs.Operation.{
  most_code,
  most_items,
  with_item,
  with_raw,
  read,
  refused,
  taken,
  number_by,
  counting,
  count_at_by,
  only,
  raw_item,
  payload_by,
  item_by,
  pair_by,
  object_by,
}
use Rattle.model.specs.declared.Operation.{Operation}
use Rattle.model.specs.Parse.{Parse}
use Rattle.model.specs.declared.Fault.TheVariants.{Form}
use Rattle.model.specs.Num.{Num}
use Rattle.model.specs.Num.{Got, Bad}
use Rattle.model.proofs.Lists.{and_l, and_r, both_true, not-true}
use Rattle.continuity.specs.Records.{
  item_length,
  pair_length,
  listed_length,
  item_numbers,
  pair_numbers,
  listed_numbers,
  within,
}
use Rattle.continuity.proofs.Widths.{number_width, number-high, number-within}

module _ (few most : ℕ) (enough : most_code ≤ few) (s : List ℕ) where
  -- a number that was read
  pub record Took (at : ℕ) (k : ℕ → ℕ → Parse) : Type 0 where
    pub v : ℕ
    pub next : ℕ
    pub is : number_by most s at k ≡ k v next
    pub far : next ≡ at + bytes_to v
    pub high : v ≤ most
    pub less : (k' : ℕ → ℕ → Parse) → v ≤ few → number_by few s at k' ≡ k' v next

  pub took : (at : ℕ) (k : ℕ → ℕ → Parse) → (number_by most s at k).answer ≡ 0 → Took at k
  unfolding taken refused
  took at k h = go (number_to most s at) refl h
    where
      go : (n : Num) → number_to most s at ≡ n → (taken n k).answer ≡ 0 → Took at k
      go (Bad f) e h = absurd (omega arith)
      go (Got w m) e h =
          record {
            v = w;
            next = m;
            is = ap (λ (x : Num). taken x k) e;
            far = number_width few most s at e;
            high = number-high few most s at e;
            less = λ k' l. ap (λ (x : Num). taken x k') (number-within few most s at e l);
          }

  -- a count
  pub record Counted (at : ℕ) (k : ℕ → ℕ → Parse) : Type 0 where
    pub v : ℕ
    pub next : ℕ
    pub is : taken (count_at_by most s at) k ≡ k v next
    pub far : next ≡ at + bytes_to v
    pub high : v ≤ most_items
    pub less : (k' : ℕ → ℕ → Parse) → taken (count_at_by few s at) k' ≡ k' v next

  pub counted : (at : ℕ) (k : ℕ → ℕ → Parse) → (taken (count_at_by most s at) k).answer ≡ 0 → Counted at k
  unfolding taken refused count_at_by counting
  counted at k h = go (number_to most s at) refl h
    where
      fits : (w m : ℕ) (t : Bool) → number_to most s at ≡ Got w m → leb 1 w && leb w most_items ≡ t
          → (taken (cond t (Got w m) (Bad Form)) k).answer ≡ 0 → Counted at k
      fits w m true e f h =
          let l : w ≤ most_items = leb-true w most_items (and_r (leb 1 w) (leb w most_items) f) in
          record {
            v = w;
            next = m;
            is = ap (λ (x : Num). taken (counting x) k) e ∙ ap (λ (t : Bool). taken (cond t (Got w m) (Bad Form)) k) f;
            far = number_width few most s at e;
            high = l;
            less = λ k'. ap (λ (x : Num). taken (counting x) k')
                (number-within few most s at e (omega (arith, l, enough)))
                ∙ ap (λ (t : Bool). taken (cond t (Got w m) (Bad Form)) k') f;
          }
      fits w m false e f h = absurd (omega arith)

      go : (n : Num) → number_to most s at ≡ n → (taken (counting n) k).answer ≡ 0 → Counted at k
      go (Bad f) e h = absurd (omega arith)
      go (Got w m) e h = fits w m (leb 1 w && leb w most_items) e refl h

  -- an item, read by two readers
  pub record Item (f g : ℕ → ℕ → Operation → Parse) (size : ℕ → ℕ → ℕ → ℕ) (numbers : ℕ → ℕ → ℕ → List ℕ) (i at : ℕ)
      (op : Operation) : Type 0 where
    pub o : ℕ
    pub second : ℕ
    pub form : ℕ
    pub end : ℕ
    pub next : Operation
    pub is : g i at op ≡ read end next
    pub objects : next.objects ≡ set op.objects i o
    pub seconds : next.seconds ≡ set op.seconds i second
    pub forms : next.forms ≡ set op.forms i form
    pub head : (next.code ≡ op.code) × (next.subject ≡ op.subject) × (next.partition ≡ op.partition)
        × (next.count ≡ op.count)
    pub far : end ≡ at + size o second form
    pub high : within most (numbers o second form) ≡ true
    pub less : within few (numbers o second form) ≡ true → f i at op ≡ g i at op

  abbrev pub Items : (f g : ℕ → ℕ → Operation → Parse) → (ℕ → ℕ → ℕ → ℕ) → (ℕ → ℕ → ℕ → List ℕ) → Type 0
  Items f g size numbers = (i at : ℕ) (op : Operation) → (g i at op).answer ≡ 0 → Item f g size numbers i at op

  -- the first of some numbers, and the others
  pub first-within : (v : ℕ) (vs : List ℕ) → within few (v ∷ vs) ≡ true → v ≤ few
  first-within v vs h = leb-true v few (and_l (leb v few) (within few vs) h)

  pub rest-within : (v : ℕ) (vs : List ℕ) → within few (v ∷ vs) ≡ true → within few vs ≡ true
  rest-within v vs h = and_r (leb v few) (within few vs) h

  pub object_took : Items (object_by few s) (object_by most s) listed_length listed_numbers
  unfolding object_by with_item
  object_took i at op h =
      let t = took at _ h in
      record {
        o = t.v;
        second = 0;
        form = 0;
        end = t.next;
        next = with_item op i t.v 0 0;
        is = t.is;
        objects = refl;
        seconds = refl;
        forms = refl;
        head = (refl, refl, refl, refl);
        far = t.far;
        high = both_true (le-leb t.v most t.high) refl;
        less = λ l. t.less _ (first-within t.v [] l) ∙ sym t.is;
      }

  -- after a number, which is told by its answer
  pub onto : {p q : Parse} → p ≡ q → p.answer ≡ 0 → q.answer ≡ 0
  onto e h = subst (λ (x : Parse). x.answer ≡ 0) e h

  pub pair_took : Items (pair_by few s) (pair_by most s) pair_length pair_numbers
  unfolding pair_by with_item
  pair_took i at op h =
      let t = took at _ h in
      let u = took t.next _ (onto t.is h) in
      record {
        o = t.v;
        second = u.v;
        form = 0;
        end = u.next;
        next = with_item op i t.v u.v 0;
        is = t.is ∙ u.is;
        objects = refl;
        seconds = refl;
        forms = refl;
        head = (refl, refl, refl, refl);
        far = omega (arith, t.far, u.far);
        high = both_true (le-leb t.v most t.high) (both_true (le-leb u.v most u.high) refl);
        less = λ l. t.less _ (first-within t.v (u.v ∷ []) l)
            ∙ (u.less _ (first-within u.v [] (rest-within t.v (u.v ∷ []) l)) ∙ sym (t.is ∙ u.is));
      }

  -- the payload of a write's item
  record Pay (i object form at : ℕ) (op : Operation) : Type 0 where
    second : ℕ
    end : ℕ
    next : Operation
    is : payload_by most (eqb form 0) (eqb form 1) s i object at op ≡ read end next
    objects : next.objects ≡ set op.objects i object
    seconds : next.seconds ≡ set op.seconds i second
    forms : next.forms ≡ set op.forms i form
    head : (next.code ≡ op.code) × (next.subject ≡ op.subject) × (next.partition ≡ op.partition)
        × (next.count ≡ op.count)
    low : form ≤ 1
    far : end ≡ at + cond (eqb form 0) (bytes_to second) content_bytes
    high : within most (cond (eqb form 0) (second ∷ []) []) ≡ true
    less : within few (cond (eqb form 0) (second ∷ []) []) ≡ true
        → payload_by few (eqb form 0) (eqb form 1) s i object at op
        ≡ payload_by most (eqb form 0) (eqb form 1) s i object at op

  pay : (i object form at : ℕ) (op : Operation)
      → (payload_by most (eqb form 0) (eqb form 1) s i object at op).answer ≡ 0 → Pay i object form at op
  unfolding payload_by with_item with_raw raw_item only refused
  pay i object zero at op h =
      let t = took at _ h in
      record {
        second = t.v;
        end = t.next;
        next = with_item op i object t.v 0;
        is = t.is;
        objects = refl;
        seconds = refl;
        forms = refl;
        head = (refl, refl, refl, refl);
        low = omega arith;
        far = t.far;
        high = both_true (le-leb t.v most t.high) refl;
        less = λ l. t.less _ (first-within t.v [] l) ∙ sym t.is;
      }
  pay i object (suc zero) at op h = go (leb (at + content_bytes) (length s)) refl h
    where
      raw : Operation
      raw = with_raw (with_item op i object 0 1) i (take content_bytes (drop at s))

      go : (t : Bool) → leb (at + content_bytes) (length s) ≡ t
          → (only t (read (at + content_bytes) raw)).answer ≡ 0 → Pay i object 1 at op
      go true e h =
          record {
            second = 0;
            end = at + content_bytes;
            next = raw;
            is = ap (λ (t : Bool). only t (read (at + content_bytes) raw)) e;
            objects = refl;
            seconds = refl;
            forms = refl;
            head = (refl, refl, refl, refl);
            low = omega arith;
            far = refl;
            high = refl;
            less = λ l. refl;
          }
      go false e h = absurd (omega arith)
  pay i object (suc (suc form)) at op h =
      absurd (neither (eqb (suc (suc form)) 0) (eqb (suc (suc form)) 1)
      (not-true (eqb (suc (suc form)) 0) (λ e. absurd (let z = eqb-true (suc (suc form)) 0 e in omega arith)))
      (not-true (eqb (suc (suc form)) 1) (λ e. absurd (let z = eqb-true (suc (suc form)) 1 e in omega arith))) h)
    where
      neither : (t u : Bool) → t ≡ false → u ≡ false → (payload_by most t u s i object at op).answer ≡ 0 → ⊥
      neither true u e f h = true≢false e
      neither false true e f h = true≢false f
      neither false false e f h = omega arith

  one_byte_lem : (v : ℕ) → v ≤ 1 → bytes_to v ≡ 1
  one_byte_lem zero l = refl
  one_byte_lem (suc zero) l = refl
  one_byte_lem (suc (suc v)) l = absurd (omega arith)

  pub item_took : Items (item_by few s) (item_by most s) item_length item_numbers
  unfolding item_by
  item_took i at op h =
      let t = took at _ h in
      let u = took t.next _ (onto t.is h) in
      let p = pay i t.v u.v u.next op (onto (t.is ∙ u.is) h) in
      record {
        o = t.v;
        second = p.second;
        form = u.v;
        end = p.end;
        next = p.next;
        is = t.is ∙ (u.is ∙ p.is);
        objects = p.objects;
        seconds = p.seconds;
        forms = p.forms;
        head = p.head;
        far = omega (arith, t.far, u.far, p.far, one_byte_lem u.v p.low);
        high = both_true (le-leb t.v most t.high) p.high;
        less = λ l.
            let vs : List ℕ = cond (eqb u.v 0) (p.second ∷ []) [] in
            t.less _ (first-within t.v vs l)
            ∙ (u.less _ (omega (arith, p.low, enough)) ∙ (p.less (rest-within t.v vs l) ∙ sym (t.is ∙ u.is)));
      }
