-- What shows of nodes and outcomes, exactly or but for numbers, and the paths that lie in a filesystem.
use Rattle.std.proofs.Common.{◌≡◌, ℕ, suc, Bool, true, false, cond, ◌+◌, List, [], ◌∷◌, ◌++◌, map, length, count_by, fold, Option, Some, None, is_some, IfSome, option_map, unwrap_or, refl, ap, sym, subst, ◌∙◌}
use Rattle.head_text.specs.declared.conditions.Conditions.{Conditions}
use Rattle.head_text.specs.ConditionsOf.{conditions_of}
use Rattle.path_text.specs.Paths.{is_prefix}
use Rattle.namespace_model.specs.declared.reply.Reply.{Reply}
use Rattle.namespace_model.specs.declared.request.Entry.{Entry}
use Rattle.namespace_model.specs.Nodes.{Node, blank}
use Rattle.namespace_model.specs.Trees.{Path, parent}
use Rattle.namespace_model.specs.Effects.{Put, Effect}
use Rattle.namespace_model.specs.Refusals.{stamps_of}
use Rattle.namespace_model.specs.Outcomes.{Outcome, answered}
use Rattle.namespace_model.specs.Locality.{Among}
use Rattle.namespace_model.specs.Shapes.{put_paths}
use Rattle.namespace_model.specs.Apart.{IsIn, unnumbered, unnumbered_field, AskNoNumber}
use Rattle.namespace_model.proofs.Prefixes.{behind_front}
use Rattle.serde_json.specs.Data.{item}
use Rattle.namespace_model.specs.Pages.{Page}
use Rattle.namespace_model.specs.SetAccessRecursive.{batched, Batch, Failure, batch_body, batch_next, resume_at, failure_items, failure_data, is_changed_directory, is_changed_file}

-- ---- outcomes without the numbers of nodes

abbrev pub unnumbered_put : Put → Put
unnumbered_put p = record { node = unnumbered p.node; stamped = p.stamped }

abbrev pub unnumbered_puts : List (Path × Put) → List (Path × Put)
unnumbered_puts puts = map (λ (x : Path × Put). (x.0, unnumbered_put x.1)) puts

-- the body is kept or not
abbrev pub unnumbered_reply : Bool → Reply → Reply
unnumbered_reply kept r = record { status = r.status; code = r.code; fields = map unnumbered_field r.fields; body = cond kept r.body []; denied = r.denied }

abbrev pub unnumbered_outcome : Bool → Outcome → Outcome
unnumbered_outcome kept o = record {
  read = o.read;
  written = o.written;
  fresh = o.fresh;
  reply = unnumbered_reply kept o.reply;
  effect = record { taken = o.effect.taken; puts = unnumbered_puts o.effect.puts; move = o.effect.move };
}

-- exactly, or but for numbers
abbrev pub shown : Bool → Node → Node
shown true x = x
shown false x = unnumbered x

abbrev pub view : Bool → Bool → Outcome → Outcome
view true kept o = o
view false kept o = unnumbered_outcome kept o

-- what is taken, put and moved is in the filesystem
pub record LiesIn (fs : List ℕ) (e : Effect) : Type 0 where
  pub taken : (q : Path) → Among q e.taken → IsIn fs q
  pub puts : (q : Path) → Among q (put_paths e) → IsIn fs q
  pub move : IfSome e.move (λ m. IsIn fs m.0 × IsIn fs m.1)

pub still : (fs : List ℕ) (reply : Reply) → LiesIn fs (answered reply).effect
still fs reply = record { taken = λ q h. absurd h; puts = λ q h. absurd h; move = tt }

-- a batch without the numbers of its nodes
abbrev pub unnumbered_failure : Failure → Failure
unnumbered_failure f = record { path = f.path; node = unnumbered f.node; code = f.code }

abbrev pub unnumbered_batch : Batch → Batch
unnumbered_batch b = record { changed = unnumbered_puts b.changed; failed = map unnumbered_failure b.failed }

abbrev pub shown_batch : Bool → Batch → Batch
shown_batch true b = b
shown_batch false b = unnumbered_batch b

failed_free : (fs : List Failure) → map (λ (f : Failure). f.path) (map unnumbered_failure fs) ≡ map (λ (f : Failure). f.path) fs
failed_free [] = refl
failed_free (f ∷ fs) = ap (λ ps. f.path ∷ ps) (failed_free fs)

items_free : (fs : List Failure) → failure_items (map unnumbered_failure fs) ≡ failure_items fs
items_free [] = refl
items_free (f ∷ fs) = ap (item (failure_data f)) (items_free fs)

length_free : (fs : List Failure) → length (map unnumbered_failure fs) ≡ length fs
length_free [] = refl
length_free (f ∷ fs) = ap (λ n. suc n) (length_free fs)

paths_free : (xs : List (Path × Put)) → map (λ (x : Path × Put). x.0) (unnumbered_puts xs) ≡ map (λ (x : Path × Put). x.0) xs
paths_free [] = refl
paths_free (x ∷ xs) = ap (λ ps. x.0 ∷ ps) (paths_free xs)

puts_free : (xs : List (Path × Put)) → unnumbered_puts (unnumbered_puts xs) ≡ unnumbered_puts xs
puts_free [] = refl
puts_free (x ∷ xs) = ap (λ ys. (x.0, unnumbered_put x.1) ∷ ys) (puts_free xs)

count_free : (test : Path × Put → Bool) → ((x : Path × Put) → test (x.0, unnumbered_put x.1) ≡ test x) → (a : ℕ) (xs : List (Path × Put))
    → fold (λ n (x : Path × Put). n + cond (test x) 1 0) a (unnumbered_puts xs) ≡ fold (λ n (x : Path × Put). n + cond (test x) 1 0) a xs
count_free test free a [] = refl
count_free test free a (x ∷ xs) =
    count_free test free (a + cond (test (x.0, unnumbered_put x.1)) 1 0) xs ∙ ap (λ b. fold (λ n (x : Path × Put). n + cond (test x) 1 0) (a + cond b 1 0) xs) (free x)

directories_free : (xs : List (Path × Put)) → count_by is_changed_directory (unnumbered_puts xs) ≡ count_by is_changed_directory xs
directories_free xs = count_free is_changed_directory (λ x. refl) 0 xs

files_free : (xs : List (Path × Put)) → count_by is_changed_file (unnumbered_puts xs) ≡ count_by is_changed_file xs
files_free xs = count_free is_changed_file (λ x. refl) 0 xs

resume_free : (token : Option Path) (xs : List (Path × Put)) → resume_at token (unnumbered_puts xs) ≡ resume_at token xs
resume_free token [] = refl
resume_free token (x ∷ xs) = resume_free (Some x.0) xs

next_free : (force : Bool) (token : Option Path) (page : Page) (b : Batch) → batch_next force token page (unnumbered_batch b) ≡ batch_next force token page b
next_free true token page b = refl
next_free false token page b = rw (length_free b.failed, resume_free token b.changed) refl

body_free : (b : Batch) → batch_body (unnumbered_batch b) ≡ batch_body b
body_free b = rw (directories_free b.changed, files_free b.changed, items_free b.failed, length_free b.failed) refl

pub batched_free : (kept : Bool) (e : Entry) (p : Path) (force : Bool) (token : Option Path) (page : Page) (b : Batch)
    → unnumbered_outcome kept (batched e p force token page (unnumbered_batch b)) ≡ unnumbered_outcome kept (batched e p force token page b)
batched_free kept e p force token page b =
    rw (failed_free b.failed, paths_free b.changed, puts_free b.changed, next_free force token page b, body_free b) refl

-- ---- nodes

-- what is read of a node without its number is the same for two that are shown alike
pub over : (exact : Bool) {A : Type 0} (g : Node → A) → ((x : Node) → g (unnumbered x) ≡ g x) → (x y : Node) → shown exact x ≡ shown exact y → g x ≡ g y
over true g free x y h = ap g h
over false g free x y h = sym (free x) ∙ ap g h ∙ free y

pub over_view : (exact kept : Bool) (f : Node → Outcome) → ((x : Node) → unnumbered_outcome kept (f (unnumbered x)) ≡ unnumbered_outcome kept (f x)) → (x y : Node) → shown exact x ≡ shown exact y
    → view exact kept (f x) ≡ view exact kept (f y)
over_view true kept f free x y h = ap f h
over_view false kept f free x y h = sym (free x) ∙ ap (λ z. unnumbered_outcome kept (f z)) h ∙ free y

pub conditions_same : (exact : Bool) (c : Conditions) → (exact ≡ false → AskNoNumber c) → (x y : Node) → shown exact x ≡ shown exact y → conditions_of c (Some (stamps_of x)) ≡ conditions_of c (Some (stamps_of y))
conditions_same true c asks x y h = ap (λ (z : Node). conditions_of c (Some (stamps_of z))) h
conditions_same false c asks x y h = asks refl x.number y.number x.moment ∙ ap (λ (z : Node). conditions_of c (Some (y.number, z.moment))) h

pub shown_blank : (exact : Bool) (o : Option Node) → unwrap_or (option_map (shown exact) o) blank ≡ shown exact (unwrap_or o blank)
shown_blank true None = refl
shown_blank false None = refl
shown_blank true (Some x) = refl
shown_blank false (Some x) = refl

pub some_mapped : (f : Node → Node) (o : Option Node) → is_some (option_map f o) ≡ is_some o
some_mapped f None = refl
some_mapped f (Some x) = refl

pub inside_Some : (f : Node → Node) (x y : Node) → Some (f x) ≡ Some (f y) → f x ≡ f y
inside_Some f x y h = ap (λ (o : Option Node). unwrap_or o (f x)) h

-- ---- paths in the filesystem

-- the account, or a path in the filesystem
abbrev pub Sees : List ℕ → Path → Type 0
Sees fs [] = Unit {0}
Sees fs (n ∷ p) = n ≡ fs

pub sees : (fs : List ℕ) (p : Path) → IsIn fs p → Sees fs p
sees fs [] h = absurd h
sees fs (n ∷ p) h = h

pub sees_front : (fs : List ℕ) (d r : Path) → Sees fs (d ++ r) → Sees fs d
sees_front fs [] r h = tt
sees_front fs (n ∷ d) r h = h

pub sees_parent : (fs : List ℕ) (p : Path) → IsIn fs p → Sees fs (parent p)
sees_parent fs [] h = absurd h
sees_parent fs (n ∷ []) h = tt
sees_parent fs (n ∷ m ∷ p) h = h

pub in_below : (fs : List ℕ) (d q : Path) → IsIn fs d → is_prefix d q ≡ true → IsIn fs q
in_below fs [] q h e = absurd h
in_below fs (n ∷ d) q h e = let rest = behind_front (n ∷ d) q e in subst (λ p. IsIn fs p) (sym rest.1) h
