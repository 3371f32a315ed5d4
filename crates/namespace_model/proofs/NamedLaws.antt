-- A step that succeeds puts the nodes that it names, and its reply tells what is so.
use Rattle.std.proofs.Common.{IsOk, ◌≡◌, ◌⊎◌, inl, inr, ℕ, suc, ◌≤◌, Bool, true, false, cond, List, [], ◌∷◌, ◌++◌, length, drop, Option, Some, None, is_some, Result, Ok, Err, lit≤, refl, ap, sym, subst, ◌∙◌, append_assoc, arith}
use Rattle.std.proofs.lemmas.Bool.{false≢true}
use Rattle.acl_text.specs.declared.acl.AclPair.{AclPair}
use Rattle.lease_state.specs.declared.lease.AppendLease.{AppendLease}
use Rattle.lease_state.specs.declared.lease.Lease.{Lease}
use Rattle.namespace_model.specs.declared.code.Code.{Code}
use Rattle.namespace_model.specs.declared.field.Field.{Field}
use Rattle.namespace_model.specs.declared.field.Field.TheVariants as field
use Rattle.namespace_model.specs.declared.field.Media.{Media}
use Rattle.namespace_model.specs.declared.field.Media.TheVariants.{Json}
use Rattle.namespace_model.specs.declared.op.BatchChange.{BatchChange}
use Rattle.namespace_model.specs.declared.op.Op.{Op}
use Rattle.namespace_model.specs.declared.op.Op.TheVariants as op
use Rattle.namespace_model.specs.declared.reply.Reply.{Reply}
use Rattle.namespace_model.specs.declared.request.Entry.{Entry}
use Rattle.namespace_model.specs.Append.{append_lease_fields, flush_fields}
use Rattle.namespace_model.specs.Create.{Making, new_directory, new_nodes}
use Rattle.namespace_model.specs.Effects.{Effect, Put, put_by, keep, effected, put_all, take_all, moved_by, nothing}
use Rattle.namespace_model.specs.LeaseNode.{action_fields}
use Rattle.namespace_model.specs.Lines.{line_place, AscendFrom}
use Rattle.namespace_model.specs.Locality.{Among}
use Rattle.namespace_model.specs.NamedNodes.{IsTurned, IsNamed, PutsNamed}
use Rattle.namespace_model.specs.Nodes.{Node}
use Rattle.namespace_model.specs.Outcomes.{Outcome}
use Rattle.namespace_model.specs.Refusals.{caller_of}
use Rattle.namespace_model.specs.Replies.{stamp_fields}
use Rattle.namespace_model.specs.SetAccessRecursive.{Batch, batch_of, batch_page, turn_of, with_turn}
use Rattle.namespace_model.specs.Shapes.{put_at, put_paths}
use Rattle.namespace_model.specs.Sound.{IsSound, IsOperation}
use Rattle.namespace_model.specs.Stamps.{stamps, HasStamp, IsStamp, IsRightPut}
use Rattle.namespace_model.specs.Step.{root_of, acts, outcome, step, closing}
use Rattle.namespace_model.specs.Told.{told_of, IsAtPath, IsTold, AreTold}
use Rattle.namespace_model.specs.Trees.{Path, Tree, at, node_at, IsTree}
use Rattle.namespace_model.proofs.LineLaws.{append_lease_lines, success_lines}
use Rattle.namespace_model.proofs.Lookups.{same_path}
use Rattle.namespace_model.proofs.Prefixes.{parent_name}
use Rattle.namespace_model.proofs.Effected.{drop_front, put_or, at-put_all}
use Rattle.namespace_model.proofs.RenameLaw.{renames_move}
use Rattle.namespace_model.proofs.ShapedMaking.{paths_of}
use Rattle.namespace_model.proofs.ShapedMoving.{long_path}
use Rattle.namespace_model.proofs.StepComes.{Comes, is_refused, succeeds, acts_come}
use Rattle.namespace_model.proofs.StepStamps.{outcome_stamps}
use Rattle.namespace_model.proofs.SuccessReplies.{no_code}
use Rattle.namespace_model.proofs.Successes.{IsBase, IsSuccess, a_filesystem_is_made, a_filesystem_is_shown, a_filesystem_is_set, a_filesystem_goes, filesystems_are_listed, paths_are_listed, nodes_are_made, a_node_moves, a_file_is_read, a_part_is_read, properties_are_shown, access_is_shown, a_right_is_there, a_file_is_appended_to, a_file_is_flushed, properties_are_set, access_is_set, a_batch_is_done, a_lease_is_acted_on, nodes_go}
use Rattle.namespace_model.proofs.TreeKept.{find_put}

-- ---- what is put

-- the last of the new nodes is the one that is asked for
last_among : (e : Entry) (m : Making) (x : Node) (done names : Path) (n : List ℕ) → Among (done ++ (names ++ n ∷ [])) (paths_of (new_nodes e m x done (names ++ n ∷ [])))
last_among e m x done [] n = inl refl
last_among e m x done (k ∷ []) n = inr (inl (sym (append_assoc done (k ∷ []) (n ∷ []))))
last_among e m x done (k ∷ j ∷ names) n =
    inr (subst (λ q. Among q (paths_of (new_nodes e m (new_directory e m x) (done ++ k ∷ []) ((j ∷ names) ++ n ∷ [])))) (append_assoc done (k ∷ []) ((j ∷ names) ++ n ∷ []))
    (last_among e m (new_directory e m x) (done ++ k ∷ []) (j ∷ names) n))

made_among : (e : Entry) (m : Making) (x : Node) (base : Path) → IsBase m.path base → 2 ≤ length m.path → Among m.path (paths_of (new_nodes e m x base (drop (length base) m.path)))
made_among e m x base is long = elim (parent_name m.path) [
  | inl none ↦ absurd (long_path m.path long none)
  | inr name ↦
      let whole : m.path ≡ base ++ (is.rest ++ name.0 ∷ []) = name.1 ∙ ap (λ q. q ++ name.0 ∷ []) is.parent_is ∙ append_assoc base is.rest (name.0 ∷ []) in
      let left : drop (length base) m.path ≡ is.rest ++ name.0 ∷ [] = ap (drop (length base)) whole ∙ drop_front base (is.rest ++ name.0 ∷ []) in
      subst (λ l. Among m.path (paths_of (new_nodes e m x base l))) (sym left)
      (subst (λ q. Among q (paths_of (new_nodes e m x base (is.rest ++ name.0 ∷ [])))) (sym whole) (last_among e m x base is.rest name.0))
]

turned_here : (e : Entry) (force : Bool) (p q : Path) (x : Node) (turn : Result AclPair Code) (rest : Batch)
    → ((p ≡ q) × IsOk turn) ⊎ (((force ≡ true) ⊎ IsOk turn) × Among p (paths_of rest.changed)) → Among p (paths_of (with_turn e force q x turn rest).changed)
turned_here e force p q x (Ok pair) rest (inl h) = inl h.0
turned_here e force p q x (Ok pair) rest (inr h) = inr h.1
turned_here e true p q x (Err c) rest (inl h) = absurd (false≢true h.1)
turned_here e true p q x (Err c) rest (inr h) = h.1
turned_here e false p q x (Err c) rest (inl h) = absurd (false≢true h.1)
turned_here e false p q x (Err c) rest (inr (inl forced, k)) = absurd (false≢true forced)
turned_here e false p q x (Err c) rest (inr (inr fine, k)) = absurd (false≢true fine)

-- what is turned is put
turned_put : (t : Tree) (e : Entry) (change : BatchChange) (force : Bool) (p : Path) (ps : List Path) → IsTurned t (caller_of e) change force p ps → Among p (paths_of (batch_of t e change force ps).changed)
turned_put t e change force p [] h = absurd h
turned_put t e change force p (q ∷ qs) h =
    turned_here e force p q (node_at t q) (turn_of (caller_of e) change (node_at t q)) (batch_of t e change force qs)
    (elim h [ inl here ↦ inl here | inr later ↦ inr (later.0, turned_put t e change force p qs later.1) ])

-- the node that is named is put, without a move; or it is where a rename leads
data IsPutOf (e : Entry) (o : Outcome) (p : Path) : Type 0 where
  put_there : Among p (put_paths o.effect) → o.effect.move ≡ None → IsPutOf e o p
  moved_there : (path source : Path) (props : Option (List (List ℕ × List ℕ))) → e.request.op ≡ op.Rename path source props → p ≡ path → IsPutOf e o p

module _ (t : Tree) (e : Entry) (sound : IsSound e.request) where
  named_by : (o : Op) (fresh : List Path) (p : Path) → e.request.op ≡ o → IsNamed t (caller_of e) fresh e.request.op p → IsNamed t (caller_of e) fresh o p
  named_by o fresh p is h = subst (λ (x : Op). IsNamed t (caller_of e) fresh x p) is h

  puts_same : (o s : Outcome) (p : Path) → o ≡ s → IsPutOf e s p → IsPutOf e o p
  puts_same o s p same h = subst (λ (x : Outcome). IsPutOf e x p) (sym same) h

  success_puts : (o : Outcome) → IsSuccess t e o → (p : Path) → IsNamed t (caller_of e) o.fresh e.request.op p → IsPutOf e o p
  success_puts o (a_filesystem_is_made path props is same) p h = puts_same o _ p same (put_there (inl (named_by _ o.fresh p is h)) refl)
  success_puts o (a_filesystem_is_shown path x is there same) p h = absurd (named_by _ o.fresh p is h)
  success_puts o (a_filesystem_is_set path props x is there same) p h = puts_same o _ p same (put_there (inl (named_by _ o.fresh p is h)) refl)
  success_puts o (a_filesystem_goes path x is same) p h = absurd (named_by _ o.fresh p is h)
  success_puts o (filesystems_are_listed prefix token max next body ps is same) p h = absurd (named_by _ o.fresh p is h)
  success_puts o (paths_are_listed dir recursive token max fs next body is same) p h = absurd (named_by _ o.fresh p is h)
  success_puts o (nodes_are_made path kind permissions umask props base x replaced is base_is same) p h =
      let m : Making = record { path = path; kind = kind; permissions = permissions; umask = umask; props = props } in
      let long = (subst (λ (a : Op). IsOperation a (length e.request.body)) is sound.operation).0.parts in
      puts_same o _ p same (put_there (elim (named_by _ o.fresh p is h) [
        | inl named ↦ subst (λ q. Among q (paths_of (new_nodes e m x base (drop (length base) path)))) (sym named) (made_among e m x base base_is long)
        | inr new ↦ subst (λ (y : Outcome). Among p y.fresh) same new
      ]) refl)
  success_puts o (a_node_moves path source props x replaced is same) p h = moved_there path source props is (named_by _ o.fresh p is h)
  success_puts o (a_file_is_read path range x bytes is there same) p h = absurd (named_by _ o.fresh p is h)
  success_puts o (a_part_is_read path range x bytes from to is there same) p h = absurd (named_by _ o.fresh p is h)
  success_puts o (properties_are_shown path status x is there same) p h = absurd (named_by _ o.fresh p is h)
  success_puts o (access_is_shown path x is there same) p h = absurd (named_by _ o.fresh p is h)
  success_puts o (a_right_is_there path want is same) p h = absurd (named_by _ o.fresh p is h)
  success_puts o (a_file_is_appended_to path position flush retain action x after is there same) p h = puts_same o _ p same (put_there (inl (named_by _ o.fresh p is h).0) refl)
  success_puts o (a_file_is_flushed path position retain x is there same) p h = puts_same o _ p same (put_there (inl (named_by _ o.fresh p is h)) refl)
  success_puts o (properties_are_set path props x is there same) p h = puts_same o _ p same (put_there (inl (named_by _ o.fresh p is h)) refl)
  success_puts o (access_is_set path owner group permissions acl x pair is there same) p h = puts_same o _ p same (put_there (inl (named_by _ o.fresh p is h)) refl)
  success_puts o (a_batch_is_done path change token max force is same) p h =
      puts_same o _ p same (put_there (turned_put t e change force p (batch_page t path token max).paths (named_by _ o.fresh p is h)) refl)
  success_puts o (a_lease_is_acted_on path act x after is there same) p h = absurd (named_by _ o.fresh p is h)
  success_puts o (nodes_go path recursive is same) p h = absurd (named_by _ o.fresh p is h)

  -- what is named is stamped
  named_stamps : (o : Op) (fresh : List Path) (p : Path) → IsNamed t (caller_of e) fresh o p → stamps o ≡ true
  named_stamps (op.Append path position flush retain action) fresh p h = h.1
  named_stamps (op.Lease path action) fresh p h = absurd h
  named_stamps other fresh p h = refl

  comes_puts : (o : Outcome) → Comes t e o → o.reply.code ≡ None → (p : Path) → IsNamed t (caller_of e) o.fresh e.request.op p → IsPutOf e o p
  comes_puts o (is_refused stop) uncoded p h = absurd (false≢true (sym (ap is_some uncoded) ∙ stop.coded))
  comes_puts o (succeeds s success same) uncoded p h =
      puts_same o (record s { read = o.read }) p same (read_too s (success_puts s success p (subst (λ (x : Outcome). IsNamed t (caller_of e) x.fresh e.request.op p) same h)))
    where
      read_too : (s : Outcome) → IsPutOf e s p → IsPutOf e (record s { read = o.read }) p
      read_too s (put_there among still) = put_there among still
      read_too s (moved_there path source props is to) = moved_there path source props is to

-- ---- what stands there after the step

module _ (t : Tree) (is : IsTree t) (e : Entry) (sound : IsSound e.request) (number : ℕ) where
  abbrev effect : Effect
  effect = (acts t e e.request.op).effect

  stamped_put : (put : Put) → IsStamp e put → HasStamp e number (put_by number put)
  stamped_put put h = record {
    number_is = ap (λ b. (cond b (record put.node { number = number }) put.node).number) h.stamped;
    moment_is = ap (λ b. (cond b (record put.node { number = number }) put.node).moment) h.stamped ∙ h.moment;
  }

  -- a put that is found stands after the step, where nothing moves
  after_put : (p : Path) (put : Put) → put_at p effect ≡ Some put → effect.move ≡ None → at (effected number effect t) p ≡ Some (put_by number put)
  after_put p put found still =
      ap (λ m. at (moved_by m (put_all number effect.puts (take_all effect.taken t))) p) still
      ∙ at-put_all number effect.puts (take_all effect.taken t) p
      ∙ ap (λ f. put_or number f (at (take_all effect.taken t) p)) found

  right_put : (p : Path) (put : Put) → put_at p effect ≡ Some put → stamps e.request.op ≡ true → IsStamp e put
  unfolding outcome
  right_put p put found stamping = subst (λ b. IsRightPut b t e p put) stamping ((outcome_stamps t is.root e).puts p put found)

  closing_code : (close : Bool) (reply : Reply) → (closing close reply).code ≡ reply.code
  closing_code true reply = refl
  closing_code false reply = refl

  uncoded_acts : (step t e number).reply.code ≡ None → (acts t e e.request.op).reply.code ≡ None
  unfolding outcome
  uncoded_acts uncoded = sym (closing_code e.request.close (acts t e e.request.op).reply) ∙ uncoded

  stands : (step t e number).reply.code ≡ None → (p : Path) → stamps e.request.op ≡ true → IsPutOf e (acts t e e.request.op) p → IsAtPath (effected number effect t) p (HasStamp e number)
  unfolding outcome
  stands uncoded p stamping (put_there among still) =
      let found = find_put p effect.puts among in
      record { node = put_by number found.0; there = after_put p found.0 found.1 still; has = stamped_put found.0 (right_put p found.0 found.1 stamping) }
  stands uncoded p stamping (moved_there path source props asked to) =
      let renamed = renames_move t is e sound number path source props asked uncoded in
      record { node = _; there = ap (at (effected number effect t)) to ∙ renamed.source; has = record { number_is = refl; moment_is = refl } }

  pub puts_named : (step t e number).reply.code ≡ None → PutsNamed t e number (step t e number).tree
  unfolding outcome
  puts_named uncoded p h =
      stands uncoded p (named_stamps t e sound e.request.op (acts t e e.request.op).fresh p h)
      (comes_puts t e sound (acts t e e.request.op) (acts_come t e) (uncoded_acts uncoded) p h)

  -- ---- what a reply tells

  -- lines from the third on tell nothing here
  tells_late : (f : Field) (q : Option Path) → 3 ≤ line_place f → IsTold (effected number effect t) number q f
  tells_late (field.ETag None) q h = absurd (let k : 3 ≤ 1 = h in omega arith)
  tells_late (field.ETag (Some told)) q h = absurd (let k : 3 ≤ 1 = h in omega arith)
  tells_late (field.LastModified told) q h = absurd (let k : 3 ≤ 2 = h in omega arith)
  tells_late other q h = tt

  told_late : (fs : List Field) (n : ℕ) (q : Option Path) → 3 ≤ n → AscendFrom n fs → AreTold (effected number effect t) number q fs
  told_late [] n q late h = tt
  told_late (f ∷ fs) n q late h =
      let k = h.0 in
      (tells_late f q (omega arith), told_late fs (suc (line_place f)) q (omega arith) h.1)

  told_stamp : (p : Path) (rest : List Field) → told_of e.request.op ≡ Some p → IsAtPath (effected number effect t) p (HasStamp e number) → AscendFrom 3 rest
      → AreTold (effected number effect t) number (told_of e.request.op) (stamp_fields e.moment ++ rest)
  told_stamp p rest told here h =
      subst (λ q. AreTold (effected number effect t) number q (stamp_fields e.moment ++ rest)) (sym told)
      (record { node = here.node; there = here.there; has = here.has.number_is }, (record { node = here.node; there = here.there; has = here.has.moment_is }, told_late rest 3 (Some p) (lit≤ tt) h))

  -- a node that has the number and the moment that are told
  told_node : (p : Path) (x y : Node) (rest : List Field) → told_of e.request.op ≡ Some p → at (effected number effect t) p ≡ Some y → y.number ≡ x.number → y.moment ≡ x.moment → AscendFrom 3 rest
      → AreTold (effected number effect t) number (told_of e.request.op) (field.ETag (Some x.number) ∷ field.LastModified x.moment ∷ rest)
  told_node p x y rest told there number_is moment_is h =
      subst (λ q. AreTold (effected number effect t) number q (field.ETag (Some x.number) ∷ field.LastModified x.moment ∷ rest)) (sym told)
      (record { node = y; there = there; has = number_is }, (record { node = y; there = there; has = moment_is }, told_late rest 3 (Some p) (lit≤ tt) h))

  told_as : (o : Op) (p : Path) → e.request.op ≡ o → told_of o ≡ Some p → told_of e.request.op ≡ Some p
  told_as o p asked told = ap told_of asked ∙ told

  -- a step whose effect is nothing leaves the tree
  unchanged : (p : Path) (x : Node) → effect ≡ nothing → at t p ≡ Some x → at (effected number effect t) p ≡ Some x
  unchanged p x none there = ap (λ f. at (effected number f t) p) none ∙ there

  kept_put : (p : Path) (y : Node) → effect ≡ record { taken = []; puts = (p, keep y) ∷ []; move = None } → at (effected number effect t) p ≡ Some y
  kept_put p y same =
      ap (λ f. at (effected number f t) p) same
      ∙ at-put_all number ((p, keep y) ∷ []) t p
      ∙ ap (λ b. put_or number (cond b (Some (keep y)) None) (at t p)) (same_path p)

  Tells : List Field → Type 0
  Tells fields = AreTold (effected number effect t) number (told_of e.request.op) fields

  module _ (o : Outcome) (same_effect : effect ≡ o.effect) (fields : List Field) (same_fields : fields ≡ o.reply.fields) (named : (p : Path) → IsNamed t (caller_of e) o.fresh e.request.op p → IsAtPath (effected number effect t) p (HasStamp e number)) where
    by_stamp : (a : Op) (p : Path) (rest : List Field) → e.request.op ≡ a → told_of a ≡ Some p → IsNamed t (caller_of e) o.fresh a p → fields ≡ stamp_fields e.moment ++ rest → AscendFrom 3 rest → Tells fields
    unfolding Tells
    by_stamp a p rest asked told name is h =
        subst (λ l. AreTold (effected number effect t) number (told_of e.request.op) l) (sym is)
        (told_stamp p rest (told_as a p asked told) (named p (subst (λ (x : Op). IsNamed t (caller_of e) o.fresh x p) (sym asked) name)) h)

    by_node : (a : Op) (p : Path) (x : Node) (rest : List Field) → e.request.op ≡ a → told_of a ≡ Some p → at t p ≡ Some x → o.effect ≡ nothing → fields ≡ field.ETag (Some x.number) ∷ field.LastModified x.moment ∷ rest → AscendFrom 3 rest → Tells fields
    unfolding Tells
    by_node a p x rest asked told there none is h =
        subst (λ l. AreTold (effected number effect t) number (told_of e.request.op) l) (sym is)
        (told_node p x x rest (told_as a p asked told) (unchanged p x (same_effect ∙ none) there) refl refl h)

    by_late : (rest : List Field) → fields ≡ rest → AscendFrom 3 rest → Tells fields
    unfolding Tells
    by_late rest is h = subst (λ l. AreTold (effected number effect t) number (told_of e.request.op) l) (sym is) (told_late rest 3 (told_of e.request.op) (lit≤ tt) h)

  rest_late : (fields : List Field) (tag : Option ℕ) (moment : ℕ) (rest : List Field) → fields ≡ field.ETag tag ∷ field.LastModified moment ∷ rest → AscendFrom 1 fields → AscendFrom 3 rest
  rest_late fields tag moment rest is h = (subst (AscendFrom 1) is h).1.1

  typed_late : (fields rest : List Field) (media : Media) → fields ≡ field.ContentType media ∷ rest → AscendFrom 1 fields → AscendFrom 3 fields
  typed_late fields rest media is h = subst (AscendFrom 3) (sym is) (lit≤ tt, (subst (AscendFrom 1) is h).1)

  append_tells : (o : Outcome) → effect ≡ o.effect → ((p : Path) → IsNamed t (caller_of e) o.fresh e.request.op p → IsAtPath (effected number effect t) p (HasStamp e number))
      → (path : Path) (position : ℕ) (flush retain : Bool) (act : AppendLease) (after : Lease) → e.request.op ≡ op.Append path position flush retain act
      → o.reply.fields ≡ flush_fields flush e.moment ++ append_lease_fields act after → Tells o.reply.fields
  append_tells o same_effect named path position true retain act after asked is =
      by_stamp o same_effect o.reply.fields refl named (op.Append path position true retain act) path (append_lease_fields act after) asked refl (refl, refl) is (append_lease_lines act after)
  append_tells o same_effect named path position false retain act after asked is =
      by_late o same_effect o.reply.fields refl named (append_lease_fields act after) is (append_lease_lines act after)

  success_tells : (o : Outcome) → IsSuccess t e o → effect ≡ o.effect → AscendFrom 1 o.reply.fields
      → ((p : Path) → IsNamed t (caller_of e) o.fresh e.request.op p → IsAtPath (effected number effect t) p (HasStamp e number)) → Tells o.reply.fields
  unfolding Tells
  success_tells o (a_filesystem_is_made path props asked same) does lines named =
      by_stamp o does o.reply.fields refl named (op.CreateFilesystem path props) (root_of path) [] asked refl refl (ap (λ (x : Outcome). x.reply.fields) same) tt
  success_tells o (a_filesystem_is_shown path x asked there same) does lines named =
      by_node o does o.reply.fields refl named (op.GetFilesystem path) (root_of path) x _ asked refl there (ap (λ (y : Outcome). y.effect) same) (ap (λ (y : Outcome). y.reply.fields) same)
      (rest_late o.reply.fields (Some x.number) x.moment _ (ap (λ (y : Outcome). y.reply.fields) same) lines)
  success_tells o (a_filesystem_is_set path props x asked there same) does lines named =
      by_stamp o does o.reply.fields refl named (op.SetFilesystem path props) (root_of path) [] asked refl refl (ap (λ (y : Outcome). y.reply.fields) same) tt
  success_tells o (a_filesystem_goes path x asked same) does lines named = by_late o does o.reply.fields refl named [] (ap (λ (y : Outcome). y.reply.fields) same) tt
  success_tells o (filesystems_are_listed prefix token max next body ps asked same) does lines named =
      by_late o does o.reply.fields refl named o.reply.fields refl (typed_late o.reply.fields _ Json (ap (λ (y : Outcome). y.reply.fields) same) lines)
  success_tells o (paths_are_listed dir recursive token max fs next body asked same) does lines named =
      by_late o does o.reply.fields refl named o.reply.fields refl (typed_late o.reply.fields _ Json (ap (λ (y : Outcome). y.reply.fields) same) lines)
  success_tells o (nodes_are_made path kind permissions umask props base x replaced asked base_is same) does lines named =
      by_stamp o does o.reply.fields refl named (op.Create path kind permissions umask props) path [] asked refl (inl refl) (ap (λ (y : Outcome). y.reply.fields) same) tt
  success_tells o (a_node_moves path source props x replaced asked same) does lines named =
      by_stamp o does o.reply.fields refl named (op.Rename path source props) path [] asked refl refl (ap (λ (y : Outcome). y.reply.fields) same) tt
  success_tells o (a_file_is_read path range x bytes asked there same) does lines named =
      by_node o does o.reply.fields refl named (op.Read path range) path x _ asked refl there (ap (λ (y : Outcome). y.effect) same) (ap (λ (y : Outcome). y.reply.fields) same)
      (rest_late o.reply.fields (Some x.number) x.moment _ (ap (λ (y : Outcome). y.reply.fields) same) lines)
  success_tells o (a_part_is_read path range x bytes from to asked there same) does lines named =
      by_node o does o.reply.fields refl named (op.Read path range) path x _ asked refl there (ap (λ (y : Outcome). y.effect) same) (ap (λ (y : Outcome). y.reply.fields) same)
      (rest_late o.reply.fields (Some x.number) x.moment _ (ap (λ (y : Outcome). y.reply.fields) same) lines)
  success_tells o (properties_are_shown path status x asked there same) does lines named =
      by_node o does o.reply.fields refl named (op.GetProperties path status) path x _ asked refl there (ap (λ (y : Outcome). y.effect) same) (ap (λ (y : Outcome). y.reply.fields) same)
      (rest_late o.reply.fields (Some x.number) x.moment _ (ap (λ (y : Outcome). y.reply.fields) same) lines)
  success_tells o (access_is_shown path x asked there same) does lines named =
      by_node o does o.reply.fields refl named (op.GetAccess path) path x _ asked refl there (ap (λ (y : Outcome). y.effect) same) (ap (λ (y : Outcome). y.reply.fields) same)
      (rest_late o.reply.fields (Some x.number) x.moment _ (ap (λ (y : Outcome). y.reply.fields) same) lines)
  success_tells o (a_right_is_there path want asked same) does lines named = by_late o does o.reply.fields refl named [] (ap (λ (y : Outcome). y.reply.fields) same) tt
  success_tells o (a_file_is_appended_to path position flush retain act x after asked there same) does lines named =
      append_tells o does named path position flush retain act after asked (ap (λ (y : Outcome). y.reply.fields) same)
  success_tells o (a_file_is_flushed path position retain x asked there same) does lines named =
      by_stamp o does o.reply.fields refl named (op.Flush path position retain) path [] asked refl refl (ap (λ (y : Outcome). y.reply.fields) same) tt
  success_tells o (properties_are_set path props x asked there same) does lines named =
      by_stamp o does o.reply.fields refl named (op.SetProperties path props) path [] asked refl refl (ap (λ (y : Outcome). y.reply.fields) same) tt
  success_tells o (access_is_set path owner group permissions acl x pair asked there same) does lines named =
      by_stamp o does o.reply.fields refl named (op.SetAccess path owner group permissions acl) path [] asked refl refl (ap (λ (y : Outcome). y.reply.fields) same) tt
  success_tells o (a_batch_is_done path change token max force asked same) does lines named =
      by_late o does o.reply.fields refl named o.reply.fields refl (typed_late o.reply.fields _ Json (ap (λ (y : Outcome). y.reply.fields) same) lines)
  success_tells o (a_lease_is_acted_on path act x after asked there same) does lines named =
      subst Tells (sym (ap (λ (y : Outcome). y.reply.fields) same))
      (told_node path x (record x { lease = after }) (action_fields act after e.moment) (told_as (op.Lease path act) path asked refl)
      (kept_put path (record x { lease = after }) (does ∙ ap (λ (y : Outcome). y.effect) same)) refl refl
      (rest_late o.reply.fields (Some x.number) x.moment (action_fields act after e.moment) (ap (λ (y : Outcome). y.reply.fields) same) lines))
  success_tells o (nodes_go path recursive asked same) does lines named = by_late o does o.reply.fields refl named [] (ap (λ (y : Outcome). y.reply.fields) same) tt

  coded_none : (o s : Outcome) → IsSuccess t e s → o ≡ record s { read = o.read } → o.reply.code ≡ None
  coded_none o s success same = ap (λ (x : Outcome). x.reply.code) same ∙ no_code t e s success

  acts_tell : Comes t e (acts t e e.request.op) → Tells (acts t e e.request.op).reply.fields
  unfolding outcome Tells
  acts_tell (is_refused stop) = subst Tells (sym stop.no_lines) tt
  acts_tell (succeeds s success same) =
      let uncoded : (step t e number).reply.code ≡ None = closing_code e.request.close (acts t e e.request.op).reply ∙ coded_none (acts t e e.request.op) s success same in
      subst Tells (sym (ap (λ (x : Outcome). x.reply.fields) same))
      (success_tells s success (ap (λ (x : Outcome). x.effect) same) (success_lines t e s success)
      (λ p h. puts_named uncoded p (subst (λ (fresh : List Path). IsNamed t (caller_of e) fresh e.request.op p) (sym (ap (λ (x : Outcome). x.fresh) same)) h)))

  closed_tells : (close : Bool) (reply : Reply) → Tells reply.fields → Tells (closing close reply).fields
  unfolding Tells
  closed_tells true reply h = (tt, h)
  closed_tells false reply h = h

  pub tells_what_is : AreTold (step t e number).tree number (told_of e.request.op) (step t e number).reply.fields
  unfolding outcome Tells
  tells_what_is = closed_tells e.request.close (acts t e e.request.op).reply (acts_tell (acts_come t e))
