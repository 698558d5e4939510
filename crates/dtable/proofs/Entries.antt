-- A list of `toml` values as the items of a document, and the meaning of each.
use Rattle.std.proofs.Common.{◌≡◌, ℕ, suc, zero, ◌+◌, ◌<◌, List, [], ◌∷◌, ◌++◌, length, map, take, get_or, Option, Some, None, refl, sym, ap, ◌∙◌, arith, append_assoc}
use Rattle.std.proofs.lemmas.List.{take_more, append-nil}
use Rattle.toml.specs.Data.{Data, Items, no_items, item}
use Rattle.toml.specs.View.{view, items_view}
use Rattle.toml.specs.declared.value.Value.{Value}
use Rattle.dtable.specs.Document.{item_count, Optionally, Each, EachAfter, EachUnder}

-- there are as many items as values
pub item_count-view : (vs : List Value) → item_count (items_view vs) ≡ length vs
item_count-view [] = refl
item_count-view (v ∷ vs) = ap suc (item_count-view vs)

-- a value without a meaning makes the optional value meaningless
Optionally-none-there : {A : Type 0} (R : Data → A → Type 0) (d : Data) → ((x : A) → ¬ R d x) → (x : Option A) → ¬ Optionally R (Some d) x
Optionally-none-there R d none None h = h
Optionally-none-there R d none (Some x) h = none x h

pub Optionally-none : {A : Type 0} (R : Data → A → Type 0) (o : Option Data) (d : Data) → o ≡ Some d → ((x : A) → ¬ R d x) → (x : Option A) → ¬ Optionally R o x
Optionally-none R o d there none x h = Optionally-none-there R d none x (rw there at h)

-- an optional value has at most one meaning if the value does
pub Optionally-same : {A : Type 0} (R : Data → A → Type 0) → ((d : Data) (x y : A) → R d x → R d y → x ≡ y) → (o : Option Data) (x y : Option A) → Optionally R o x → Optionally R o y → x ≡ y
Optionally-same R once None None None h k = refl
Optionally-same R once None None (Some y) h k = absurd k
Optionally-same R once None (Some x) y h k = absurd h
Optionally-same R once (Some d) None y h k = absurd h
Optionally-same R once (Some d) (Some x) None h k = absurd k
Optionally-same R once (Some d) (Some x) (Some y) h k = ap Some (once d x y h k)

module _ {A : Type 0} (R : Data → A → Type 0) where
  Each-push : (vs : List Value) (v : Value) (xs : List A) (x : A) → Each R (items_view vs) xs → R (view v) x → Each R (items_view (vs ++ v ∷ [])) (xs ++ x ∷ [])
  Each-push [] v [] x h last = (last, tt)
  Each-push [] v (y ∷ ys) x h last = absurd h
  Each-push (w ∷ vs) v [] x h last = absurd h
  Each-push (w ∷ vs) v (y ∷ ys) x h last = (h.0, Each-push vs v ys x h.1 last)

  -- the list, extended by one more value
  pub Each-more : (vs : List Value) (k : ℕ) (v : Value) (xs : List A) (x : A) → k < length vs → v ≡ get_or vs k v → Each R (items_view (take k vs)) xs → R (view v) x
      → Each R (items_view (take (k + 1) vs)) (xs ++ x ∷ [])
  Each-more vs k v xs x within here before last =
      let pushed = Each-push (take k vs) v xs x before last in
      let same : take (k + 1) vs ≡ take k vs ++ v ∷ [] = take_more vs k v within ∙ ap (λ w. take k vs ++ w ∷ []) (sym here) in
      rw same pushed

  -- a value without a meaning makes the list meaningless
  pub Each-none : (vs : List Value) (k : ℕ) (v : Value) (xs : List A) → k < length vs → v ≡ get_or vs k v → ((x : A) → ¬ R (view v) x) → ¬ Each R (items_view vs) xs
  Each-none [] k v xs within here none h = absurd (omega arith)
  Each-none (w ∷ vs) k v [] within here none h = h
  Each-none (w ∷ vs) zero v (x ∷ xs) within here none h = none x (rw here h.0)
  Each-none (w ∷ vs) (suc k) v (x ∷ xs) within here none h = Each-none vs k v xs (omega arith) here none h.1

  -- a list has at most one meaning if each value does
  pub Each-same : ((d : Data) (x y : A) → R d x → R d y → x ≡ y) → (ds : Items) (xs ys : List A) → Each R ds xs → Each R ds ys → xs ≡ ys
  Each-same once no_items [] [] h k = refl
  Each-same once no_items [] (y ∷ ys) h k = absurd k
  Each-same once no_items (x ∷ xs) ys h k = absurd h
  Each-same once (item d ds) [] ys h k = absurd h
  Each-same once (item d ds) (x ∷ xs) [] h k = absurd k
  Each-same once (item d ds) (x ∷ xs) (y ∷ ys) h k =
      ap (λ z. z ∷ xs) (once d x y h.0 k.0) ∙ ap (λ zs. y ∷ zs) (Each-same once ds xs ys h.1 k.1)

module _ {A S : Type 0} (seen : A → S) (R : List S → Data → A → Type 0) where
  EachAfter-push : (front : List S) (vs : List Value) (v : Value) (xs : List A) (x : A) → EachAfter seen R front (items_view vs) xs → R (front ++ map seen xs) (view v) x
      → EachAfter seen R front (items_view (vs ++ v ∷ [])) (xs ++ x ∷ [])
  EachAfter-push front [] v [] x h last = (rw (append-nil front) at last, tt)
  EachAfter-push front [] v (y ∷ ys) x h last = absurd h
  EachAfter-push front (w ∷ vs) v [] x h last = absurd h
  EachAfter-push front (w ∷ vs) v (y ∷ ys) x h last = (h.0, EachAfter-push (front ++ seen y ∷ []) vs v ys x h.1 (rw append_assoc last))

  -- the list, extended by one more value
  pub EachAfter-more : (front : List S) (vs : List Value) (k : ℕ) (v : Value) (xs : List A) (x : A) → k < length vs → v ≡ get_or vs k v
      → EachAfter seen R front (items_view (take k vs)) xs → R (front ++ map seen xs) (view v) x → EachAfter seen R front (items_view (take (k + 1) vs)) (xs ++ x ∷ [])
  EachAfter-more front vs k v xs x within here before last =
      let pushed = EachAfter-push front (take k vs) v xs x before last in
      let same : take (k + 1) vs ≡ take k vs ++ v ∷ [] = take_more vs k v within ∙ ap (λ w. take k vs ++ w ∷ []) (sym here) in
      rw same pushed

  -- a value without a meaning, in view of the elements before it, makes the list meaningless
  pub EachAfter-none : ((front : List S) (d : Data) (x y : A) → R front d x → R front d y → seen x ≡ seen y)
      → (front : List S) (vs : List Value) (k : ℕ) (v : Value) (xs ys : List A) → k < length vs → v ≡ get_or vs k v
      → EachAfter seen R front (items_view (take k vs)) xs → ((x : A) → ¬ R (front ++ map seen xs) (view v) x) → ¬ EachAfter seen R front (items_view vs) ys
  EachAfter-none once front [] k v xs ys within here before none h = absurd (omega arith)
  EachAfter-none once front (w ∷ vs) k v xs [] within here before none h = h
  EachAfter-none once front (w ∷ vs) zero v [] (y ∷ ys) within here before none h = none y (rw (here, append-nil front) h.0)
  EachAfter-none once front (w ∷ vs) zero v (x ∷ xs) (y ∷ ys) within here before none h = before
  EachAfter-none once front (w ∷ vs) (suc k) v [] (y ∷ ys) within here before none h = before
  EachAfter-none once front (w ∷ vs) (suc k) v (x ∷ xs) (y ∷ ys) within here before none h =
      let same = once front (view w) x y before.0 h.0 in
      EachAfter-none once (front ++ seen x ∷ []) vs k v xs ys (omega arith) here before.1 (λ z r. none z (rw append_assoc at r)) (rw same h.1)

  -- a list has at most one meaning if each value does, in view of the elements before it
  pub EachAfter-same : ((front : List S) (d : Data) (x y : A) → R front d x → R front d y → x ≡ y) → (front : List S) (ds : Items) (xs ys : List A)
      → EachAfter seen R front ds xs → EachAfter seen R front ds ys → xs ≡ ys
  EachAfter-same once front no_items [] [] h k = refl
  EachAfter-same once front no_items [] (y ∷ ys) h k = absurd k
  EachAfter-same once front no_items (x ∷ xs) ys h k = absurd h
  EachAfter-same once front (item d ds) [] ys h k = absurd h
  EachAfter-same once front (item d ds) (x ∷ xs) [] h k = absurd k
  EachAfter-same once front (item d ds) (x ∷ xs) (y ∷ ys) h k =
      let same : x ≡ y = once front d x y h.0 k.0 in
      ap (λ z. z ∷ xs) same ∙ ap (λ zs. y ∷ zs) (EachAfter-same once (front ++ seen y ∷ []) ds xs ys (rw same at h.1) k.1)

  -- the later values see the same if each value has one visible part
  pub EachAfter-seen : ((front : List S) (d : Data) (x y : A) → R front d x → R front d y → seen x ≡ seen y) → (front : List S) (ds : Items) (xs ys : List A)
      → EachAfter seen R front ds xs → EachAfter seen R front ds ys → map seen xs ≡ map seen ys
  EachAfter-seen once front no_items [] [] h k = refl
  EachAfter-seen once front no_items [] (y ∷ ys) h k = absurd k
  EachAfter-seen once front no_items (x ∷ xs) ys h k = absurd h
  EachAfter-seen once front (item d ds) [] ys h k = absurd h
  EachAfter-seen once front (item d ds) (x ∷ xs) [] h k = absurd k
  EachAfter-seen once front (item d ds) (x ∷ xs) (y ∷ ys) h k =
      let same : seen x ≡ seen y = once front d x y h.0 k.0 in
      ap (λ s. s ∷ map seen xs) same ∙ ap (λ ss. seen y ∷ ss) (EachAfter-seen once (front ++ seen y ∷ []) ds xs ys (rw same at h.1) k.1)

module _ {C A : Type 0} (R : C → Data → A → Type 0) where
  EachUnder-push : (cs : List C) (c : C) (vs : List Value) (v : Value) (xs : List A) (x : A) → EachUnder R cs (items_view vs) xs → R c (view v) x
      → EachUnder R (cs ++ c ∷ []) (items_view (vs ++ v ∷ [])) (xs ++ x ∷ [])
  EachUnder-push [] c [] v [] x h last = (last, tt)
  EachUnder-push [] c [] v (y ∷ ys) x h last = absurd h
  EachUnder-push [] c (w ∷ vs) v ys x h last = absurd h
  EachUnder-push (b ∷ cs) c [] v ys x h last = absurd h
  EachUnder-push (b ∷ cs) c (w ∷ vs) v [] x h last = absurd h
  EachUnder-push (b ∷ cs) c (w ∷ vs) v (y ∷ ys) x h last = (h.0, EachUnder-push cs c vs v ys x h.1 last)

  -- the row, extended by one more value
  pub EachUnder-more : (cs : List C) (c : C) (vs : List Value) (v : Value) (k : ℕ) (xs : List A) (x : A) → k < length cs → c ≡ get_or cs k c → k < length vs → v ≡ get_or vs k v
      → EachUnder R (take k cs) (items_view (take k vs)) xs → R c (view v) x → EachUnder R (take (k + 1) cs) (items_view (take (k + 1) vs)) (xs ++ x ∷ [])
  EachUnder-more cs c vs v k xs x column at_column within here before last =
      let pushed = EachUnder-push (take k cs) c (take k vs) v xs x before last in
      let columns : take (k + 1) cs ≡ take k cs ++ c ∷ [] = take_more cs k c column ∙ ap (λ w. take k cs ++ w ∷ []) (sym at_column) in
      let same : take (k + 1) vs ≡ take k vs ++ v ∷ [] = take_more vs k v within ∙ ap (λ w. take k vs ++ w ∷ []) (sym here) in
      rw (columns, same) pushed

  -- a value without a meaning in its column makes the row meaningless
  pub EachUnder-none : (cs : List C) (c : C) (vs : List Value) (v : Value) (k : ℕ) (xs : List A) → k < length cs → c ≡ get_or cs k c → k < length vs → v ≡ get_or vs k v
      → ((x : A) → ¬ R c (view v) x) → ¬ EachUnder R cs (items_view vs) xs
  EachUnder-none [] c vs v k xs column at_column within here none h = absurd (omega arith)
  EachUnder-none (b ∷ cs) c [] v k xs column at_column within here none h = absurd (omega arith)
  EachUnder-none (b ∷ cs) c (w ∷ vs) v k [] column at_column within here none h = h
  EachUnder-none (b ∷ cs) c (w ∷ vs) v zero (x ∷ xs) column at_column within here none h = none x (rw (at_column, here) h.0)
  EachUnder-none (b ∷ cs) c (w ∷ vs) v (suc k) (x ∷ xs) column at_column within here none h =
      EachUnder-none cs c vs v k xs (omega arith) at_column (omega arith) here none h.1

  -- a row has an item for each column
  pub EachUnder-count : (cs : List C) (ds : Items) (xs : List A) → EachUnder R cs ds xs → item_count ds ≡ length cs
  EachUnder-count [] no_items xs h = refl
  EachUnder-count [] (item d ds) xs h = absurd h
  EachUnder-count (c ∷ cs) no_items xs h = absurd h
  EachUnder-count (c ∷ cs) (item d ds) [] h = absurd h
  EachUnder-count (c ∷ cs) (item d ds) (x ∷ xs) h = ap suc (EachUnder-count cs ds xs h.1)

  -- a row has at most one meaning if each item does in its column
  pub EachUnder-same : ((c : C) (d : Data) (x y : A) → R c d x → R c d y → x ≡ y) → (cs : List C) (ds : Items) (xs ys : List A) → EachUnder R cs ds xs → EachUnder R cs ds ys → xs ≡ ys
  EachUnder-same once [] no_items [] [] h k = refl
  EachUnder-same once [] no_items [] (y ∷ ys) h k = absurd k
  EachUnder-same once [] no_items (x ∷ xs) ys h k = absurd h
  EachUnder-same once [] (item d ds) xs ys h k = absurd h
  EachUnder-same once (c ∷ cs) no_items xs ys h k = absurd h
  EachUnder-same once (c ∷ cs) (item d ds) [] ys h k = absurd h
  EachUnder-same once (c ∷ cs) (item d ds) (x ∷ xs) [] h k = absurd k
  EachUnder-same once (c ∷ cs) (item d ds) (x ∷ xs) (y ∷ ys) h k =
      ap (λ z. z ∷ xs) (once c d x y h.0 k.0) ∙ ap (λ zs. y ∷ zs) (EachUnder-same once cs ds xs ys h.1 k.1)
