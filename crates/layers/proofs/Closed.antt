-- What a closing answers and leaves, from what the network below does.
use Rattle.std.proofs.Common.{◌≡◌, ℕ, ◌+◌, ◌-◌, ◌<◌, ◌≤◌, Bool, true, false, cond, ◌||◌, eqb, ltb, leb, List, [], ◌∷◌, ◌++◌, map, length, get_or, set, ℤ, Some, None, Option, sym, refl, ap, ◌∙◌, ap₂, subst, arith}
use Rattle.std.specs.List.{slice_get, refill}
use Rattle.std.specs.Option.{option_map}
use Rattle.std.proofs.lemmas.List.{length-map, length-set, length-append, map-set, set-append_left, set_at}
use Rattle.std.proofs.lemmas.Option.{slice_get-get_or, slice_get-map, slice_get_past}
use Rattle.std.proofs.lemmas.Bool.{leb-true, leb-false, le-leb, lt-leb}
use Rattle.arrayvec.proofs.ArrayVecLemmas.{items-with_items}
use Rattle.networks.specs.declared.network.Arc.{Arc}
use Rattle.networks.specs.declared.bounds.Bounds.{Bounds}
use Rattle.networks.specs.Limits.{most_nodes, most_arcs, cost_limit}
use Rattle.networks.specs.Answers.{Told, unless}
use Rattle.networks.specs.Nets.{Lock, Net, numbered, replaced, shown_arc, arc_at, held_stop, rebound_stop, with_bounds, rebounded, cost_stop, recost_stop, with_cost, recosted, lock_at, relocked, line_stop, take_out_stop, relined, taken, back_stop, hand_back_stop, handed_back}
use Rattle.networks.specs.Locks.{no_net}
use Rattle.networks.proofs.Numbered.{item_at}
use Rattle.networks.proofs.Shown.{unlocked}
use Rattle.layers.specs.declared.entry.Entry.{Entry}
use Rattle.layers.specs.declared.closing.Closing.{Closing}
use Rattle.layers.specs.declared.closing.Part.{Part}
use Rattle.layers.specs.Closings.{entry_arc, return_arc, within, closed_net, closing_stop, closing_net, is_lower, Lies}
use Rattle.layers.proofs.Joined.{nth_left, nth_right, numbered_left, numbered_right, length_replaced, replaced_left, replaced_right}
use Rattle.layers.proofs.Reach.{is_out_lower, line_lower, back_lower, is_out_upper, line_upper, back_upper, lock_through, with_through}

past_unless : {X Y : Type 0} (F : X → Y) (s : Option Told) (x y : X) → F (unless s x y) ≡ unless s (F x) (F y)
past_unless F None x y = refl
past_unless F (Some s) x y = refl

-- one arc of a network made another
abbrev amended : {C : Type 0} → Net C → ℕ → (Arc C → Arc C) → Net C
amended n a f = record { nodes = n.nodes; arcs = replaced n.arcs a (option_map f (numbered n.arcs a)); locks = n.locks }

-- an entry with other bounds
abbrev bound_entry : Bounds → Entry → Entry
bound_entry b e = record { node = e.node; bounds = b; side = e.side }

module _ {N C : Type 0} (meaning : N → Net C) (zero : C) (over : Closing N C) where
  abbrev n : Net C
  n = meaning over.below

  abbrev es : List Entry
  es = over.entries.items

  abbrev b : Bounds
  b = over.bounds

  abbrev c : C
  c = over.cost

  abbrev net : Net C
  net = closing_net n zero es b c

  abbrev closed : Net C
  closed = closed_net n zero es b c

  abbrev count : ℕ
  count = length n.arcs

  abbrev as_arc : Entry → Arc C
  as_arc = entry_arc n.nodes zero

  abbrev own : List (Arc C)
  own = map as_arc es ++ return_arc n.nodes b c ∷ []

  -- where an arc lies that is there
  pub lies : (a : ℕ) {o : Option Part} {p : Part} → o ≡ Some p → Lies n es a o → Lies n es a (Some p)
  lies a e h = subst (Lies n es a) e h

  -- ---- how many arcs

  own_length : length own ≡ length es + 1
  own_length = length-append (map as_arc es) (return_arc n.nodes b c ∷ []) ∙ ap (λ k. k + 1) (length-map es as_arc)

  module _ (e : closing_stop n ≡ None) where
    fit : closed ≡ net
    fit = sym (ap (λ s. unless s no_net closed) e)

    -- ---- arcs below

    module _ (a : ℕ) (h : a ≤ count) where
      pub arc_lower : arc_at n a ≡ arc_at net a
      arc_lower = ap₂ (λ out o. option_map (shown_arc out) o) (sym (is_out_lower count a h n.locks)) (sym (numbered_left n.arcs own a h)) ∙ ap (λ m. arc_at m a) fit

      -- the arc made another below is made another here
      amended_lower : (f : Arc C → Arc C) → closing_net (amended n a f) zero es b c ≡ amended net a f
      amended_lower f =
          let xs = n.arcs in
          let ys = replaced xs a (option_map f (numbered xs a)) in
          let K : ℕ → List (Arc C) → Net C = λ k zs. unless (cond (eqb n.nodes 0 || (ltb most_nodes (n.nodes + 2) || ltb most_arcs (k + 1))) (Some (1, 0)) None) no_net (record { nodes = n.nodes + 2; arcs = zs; locks = map (within k) n.locks }) in
          let put : ys ++ own ≡ replaced (xs ++ own) a (option_map f (numbered (xs ++ own) a)) = replaced_left f xs own a h ∙ ap (λ o. replaced (xs ++ own) a (option_map f o)) (sym (numbered_left xs own a h)) in
          ap₂ K (length_replaced xs a (option_map f (numbered xs a))) put ∙ ap (λ s. unless s no_net (amended closed a f)) e ∙ ap (λ m. amended m a f) fit

      changed_lower : (f : Arc C → Arc C) (s z : Option Told) → s ≡ z → closing_net (unless s n (amended n a f)) zero es b c ≡ unless z net (amended net a f)
      changed_lower f s z q = past_unless (λ m. closing_net m zero es b c) s n (amended n a f) ∙ ap₂ (λ o m. unless o net m) q (amended_lower f)

      pub rebound_stop_lower : rebound_stop n a ≡ rebound_stop net a
      rebound_stop_lower = ap (held_stop a) arc_lower

      pub rebounded_lower : (m : Net C) (lo hi : ℤ) → m ≡ rebounded n a lo hi → closing_net m zero es b c ≡ rebounded net a lo hi
      rebounded_lower m lo hi q = ap (λ k. closing_net k zero es b c) q ∙ changed_lower (with_bounds lo hi) _ _ rebound_stop_lower

      pub recost_stop_lower : (size : C → ℕ) (d : C) → recost_stop size n a d ≡ recost_stop size net a d
      recost_stop_lower size d = ap (cost_stop size a d) arc_lower

      pub recosted_lower : (size : C → ℕ) (m : Net C) (d : C) → m ≡ recosted size n a d → closing_net m zero es b c ≡ recosted size net a d
      recosted_lower size m d q = ap (λ k. closing_net k zero es b c) q ∙ changed_lower (with_cost d) _ _ (recost_stop_lower size d)

    -- ---- arcs above those

    module _ (a i : ℕ) (h : a ≡ count + (i + 1)) where
      arc_upper : slice_get own i ≡ arc_at net a
      arc_upper =
          let l : count < a = omega arith in
          sym (unlocked (slice_get own i)) ∙ ap₂ (λ out o. option_map (shown_arc out) o) (sym (is_out_upper count a l n.locks)) (sym (numbered_right n.arcs own a i h)) ∙ ap (λ m. arc_at m a) fit

      amended_upper : (f : Arc C → Arc C) (x : Arc C) → slice_get own i ≡ Some x → record { nodes = n.nodes + 2; arcs = n.arcs ++ set own i (f x); locks = map (within count) n.locks } ≡ amended net a f
      amended_upper f x q =
          let read : Some x ≡ numbered (n.arcs ++ own) a = sym q ∙ sym (numbered_right n.arcs own a i h) in
          let put : n.arcs ++ set own i (f x) ≡ replaced (n.arcs ++ own) a (option_map f (numbered (n.arcs ++ own) a)) = sym (replaced_right n.arcs own a i (f x) h) ∙ ap (λ o. replaced (n.arcs ++ own) a (option_map f o)) read in
          ap (λ (zs : List (Arc C)). record { nodes = n.nodes + 2; arcs = zs; locks = map (within count) n.locks }) put ∙ ap (λ m. amended m a f) fit

    -- ---- an entry

    module _ (a i : ℕ) (l : i < length es) (h : a ≡ count + (i + 1)) (y : Entry) where
      -- the entry, as it is read
      abbrev x : Entry
      x = get_or es i y

      own_entry : slice_get own i ≡ Some (as_arc x)
      own_entry =
          let m = length-map es as_arc in
          nth_left (map as_arc es) _ i (omega (arith, m)) ∙ slice_get-map as_arc es i ∙ ap (option_map as_arc) (slice_get-get_or es i y l)

      pub arc_entry : Some (as_arc x) ≡ arc_at net a
      arc_entry = sym own_entry ∙ arc_upper a i h

      -- the same, made of what was read
      pub arc_read : (k : ℕ) (z : C) (xs : List Entry) → k ≡ n.nodes → z ≡ zero → xs ≡ es → Some (entry_arc k z (get_or xs i y)) ≡ arc_at net a
      arc_read k z xs p q same = ap₂ (λ j w. Some (entry_arc j w (get_or xs i y))) p q ∙ ap (λ zs. Some (as_arc (get_or zs i y))) same ∙ arc_entry

      -- the entry, written with other bounds in a list as it was read
      module _ (xs : List Entry) (same : xs ≡ es) (d : Bounds) where
        put_back : refill (length es) es (set xs i (bound_entry d (get_or xs i y))) ≡ set es i (bound_entry d x)
        put_back = ap (λ zs. refill (length es) es (set zs i (bound_entry d (get_or zs i y)))) same ∙ items-with_items (record { items = es }) (set es i (bound_entry d x)) (length-set es i (bound_entry d x))

        rebound_is : closing_net n zero (set es i (bound_entry d x)) b c ≡ rebounded net a d.lo d.hi
        rebound_is =
            let f : Arc C → Arc C = with_bounds d.lo d.hi in
            let m = length-map es as_arc in
            let k : i < length (map as_arc es) = omega (arith, m) in
            let put : map as_arc (set es i (bound_entry d x)) ++ return_arc n.nodes b c ∷ [] ≡ set own i (f (as_arc x)) = ap (λ zs. zs ++ return_arc n.nodes b c ∷ []) (map-set as_arc es i (bound_entry d x)) ∙ sym (set-append_left (map as_arc es) _ i (f (as_arc x)) k) in
            ap (λ s. unless s no_net (closed_net n zero (set es i (bound_entry d x)) b c)) e ∙ ap (λ (zs : List (Arc C)). record { nodes = n.nodes + 2; arcs = n.arcs ++ zs; locks = map (within count) n.locks }) put ∙ amended_upper a i h f (as_arc x) own_entry ∙ ap (λ o. unless (held_stop a o) net (amended net a f)) arc_entry

        pub rebound_entry : (None ≡ rebound_stop net a) × (closing_net n zero (refill (length es) es (set xs i (bound_entry d (get_or xs i y)))) b c ≡ rebounded net a d.lo d.hi)
        rebound_entry = (ap (held_stop a) arc_entry, ap (λ zs. closing_net n zero zs b c) put_back ∙ rebound_is)

    pub recost_entry : (a i : ℕ) (l : i < length es) (h : a ≡ count + (i + 1)) (size : C → ℕ) (d : C) → (Some (10, a) ≡ recost_stop size net a d) × (net ≡ recosted size net a d)
    recost_entry a i l h size d =
        let s = ap (cost_stop size a d) (arc_entry a i l h (item_at es i l)) in
        (s, ap (λ o. unless o net (amended net a (with_cost d))) s)

    -- ---- the return arc

    module _ (a : ℕ) (h : a ≡ count + (length es + 1)) where
      own_return : slice_get own (length es) ≡ Some (return_arc n.nodes b c)
      own_return = let m = length-map es as_arc in nth_right (map as_arc es) _ (length es) 0 (omega (arith, m))

      pub arc_return : Some (return_arc n.nodes b c) ≡ arc_at net a
      arc_return = sym own_return ∙ arc_upper a (length es) h

      -- another return arc
      amended_return : (f : Arc C → Arc C) (d : Bounds) (c' : C) → return_arc n.nodes d c' ≡ f (return_arc n.nodes b c) → closing_net n zero es d c' ≡ amended net a f
      amended_return f d c' q =
          let put : map as_arc es ++ return_arc n.nodes d c' ∷ [] ≡ set own (length es) (f (return_arc n.nodes b c)) = ap (λ x. map as_arc es ++ x ∷ []) q ∙ sym (set_at (map as_arc es) (return_arc n.nodes b c) [] (f (return_arc n.nodes b c)) (length es) (length-map es as_arc)) in
          ap (λ s. unless s no_net (closed_net n zero es d c')) e ∙ ap (λ (zs : List (Arc C)). record { nodes = n.nodes + 2; arcs = n.arcs ++ zs; locks = map (within count) n.locks }) put ∙ amended_upper a (length es) h f _ own_return

      pub rebound_return : (d : Bounds) → (None ≡ rebound_stop net a) × (closing_net n zero es d c ≡ rebounded net a d.lo d.hi)
      rebound_return d =
          let f : Arc C → Arc C = with_bounds d.lo d.hi in
          (ap (held_stop a) arc_return, amended_return f d c refl ∙ ap (λ o. unless (held_stop a o) net (amended net a f)) arc_return)

      recost_stop_return : (size : C → ℕ) (d : C) (t : Bool) → leb (size d) cost_limit ≡ t → cond t None (Some (4, a)) ≡ recost_stop size net a d
      recost_stop_return size d t q = ap (λ o. cond o None (Some (4, a))) (sym q) ∙ ap (cost_stop size a d) arc_return

      pub recost_large : (size : C → ℕ) (d : C) → cost_limit < size d → (Some (4, a) ≡ recost_stop size net a d) × (net ≡ recosted size net a d)
      recost_large size d l =
          let s = recost_stop_return size d false (lt-leb (size d) cost_limit l) in
          (s, ap (λ o. unless o net (amended net a (with_cost d))) s)

      pub recost_return : (size : C → ℕ) (d : C) → size d ≤ cost_limit → (None ≡ recost_stop size net a d) × (closing_net n zero es b d ≡ recosted size net a d)
      recost_return size d l =
          let s = recost_stop_return size d true (le-leb (size d) cost_limit l) in
          (s, amended_return (with_cost d) b d refl ∙ ap (λ o. unless o net (amended net a (with_cost d))) s)

  -- ---- no arc

  module _ (a : ℕ) (h : closing_stop n ≡ None → count + (length es + 1) < a) where
    pub arc_none : None ≡ arc_at net a
    arc_none = go (closing_stop n) refl
      where
        go : (s : Option Told) → closing_stop n ≡ s → None ≡ arc_at (unless s no_net closed) a
        go (Some s) q = sym (nowhere (eqb a 0))
          where
            nowhere : (t : Bool) → option_map (shown_arc {C = C} false) (cond t None None) ≡ None
            nowhere true = refl
            nowhere false = refl
        go None q =
            let l = h q in
            let i : a ≡ count + ((a - count - 1) + 1) = omega (arith, l) in
            let none : slice_get own (a - count - 1) ≡ None = slice_get_past own (a - count - 1) (omega (arith, l, own_length)) in
            sym none ∙ arc_upper q a (a - count - 1) i ∙ ap (λ m. arc_at m a) (sym (fit q))

    pub rebound_none : (lo hi : ℤ) → (Some (8, a) ≡ rebound_stop net a) × (net ≡ rebounded net a lo hi)
    rebound_none lo hi = (ap (held_stop a) arc_none, ap (λ o. unless (held_stop a o) net (amended net a (with_bounds lo hi))) arc_none)

    pub recost_none : (size : C → ℕ) (d : C) → (Some (8, a) ≡ recost_stop size net a d) × (net ≡ recosted size net a d)
    recost_none size d = (ap (cost_stop size a d) arc_none, ap (λ o. unless (cost_stop size a d o) net (amended net a (with_cost d))) arc_none)

  -- ---- lock-outs below

  lower_means : (a : ℕ) → is_lower n a ≡ true → (closing_stop n ≡ None) × (a ≤ count)
  lower_means a h = go (closing_stop n) h
    where
      go : (s : Option Told) → unless s false (leb a count) ≡ true → (s ≡ None) × (a ≤ count)
      go None q = (refl, leb-true a count q)
      go (Some s) q = cc

  module _ (l a : ℕ) (is : is_lower n a ≡ true) where
    e : closing_stop n ≡ None
    e = (lower_means a is).0

    lower : a ≤ count
    lower = (lower_means a is).1

    relocked_lower : (x y : ℕ) (s z : Option Told) → s ≡ z → closing_net (unless s n (relocked n l (relined x y))) zero es b c ≡ unless z net (relocked net l (relined x y))
    relocked_lower x y s z q =
        let put = ap (λ (os : List Lock). record { nodes = n.nodes + 2; arcs = n.arcs ++ own; locks = os }) (with_through count l x y n.locks) in
        let same : closing_net (relocked n l (relined x y)) zero es b c ≡ relocked net l (relined x y) = ap (λ o. unless o no_net (closed_net (relocked n l (relined x y)) zero es b c)) e ∙ put ∙ ap (λ m. relocked m l (relined x y)) (fit e) in
        past_unless (λ m. closing_net m zero es b c) s n (relocked n l (relined x y)) ∙ ap₂ (λ o m. unless o net m) q same

    pub take_stop_lower : take_out_stop n l a ≡ take_out_stop net l a
    take_stop_lower = sym (line_lower count a lower (lock_at n.locks l)) ∙ ap (line_stop a) (sym (lock_through count l n.locks)) ∙ ap (λ m. take_out_stop m l a) (fit e)

    pub taken_lower : (m : Net C) → m ≡ taken n l a → closing_net m zero es b c ≡ taken net l a
    taken_lower m q = ap (λ k. closing_net k zero es b c) q ∙ relocked_lower 0 a _ _ take_stop_lower

    pub back_stop_lower : hand_back_stop n l a ≡ hand_back_stop net l a
    back_stop_lower = sym (back_lower count a lower (lock_at n.locks l)) ∙ ap (back_stop a) (sym (lock_through count l n.locks)) ∙ ap (λ m. hand_back_stop m l a) (fit e)

    pub handed_lower : (m : Net C) → m ≡ handed_back n l a → closing_net m zero es b c ≡ handed_back net l a
    handed_lower m q = ap (λ k. closing_net k zero es b c) q ∙ relocked_lower a 0 _ _ back_stop_lower

  module _ (l a : ℕ) (is : is_lower n a ≡ false) where
    -- a lock-out there, if any, does not stand over arc a
    not_lower : (P : Option Lock → Type 0) → P None → ((o : Option Lock) → count < a → P (option_map (within count) o)) → P (lock_at net.locks l)
    not_lower P none some = go (closing_stop n) is
      where
        go : (s : Option Told) → unless s false (leb a count) ≡ false → P (lock_at (unless s no_net closed).locks l)
        go (Some s) q = none
        go None q = rw (lock_through count l n.locks) (some (lock_at n.locks l) (leb-false a count q))

    pub take_upper : (Some (8, a) ≡ take_out_stop net l a) × (net ≡ taken net l a)
    take_upper =
        let s : Some (8, a) ≡ take_out_stop net l a = not_lower (λ o. Some (8, a) ≡ line_stop a o) refl (λ o k. sym (line_upper count a k o)) in
        (s, ap (λ o. unless o net (relocked net l (relined 0 a))) s)

    pub back_none : (Some (12, a) ≡ hand_back_stop net l a) × (net ≡ handed_back net l a)
    back_none =
        let s : Some (12, a) ≡ hand_back_stop net l a = not_lower (λ o. Some (12, a) ≡ back_stop a o) refl (λ o k. sym (back_upper count a k o)) in
        (s, ap (λ o. unless o net (relocked net l (relined a 0))) s)
