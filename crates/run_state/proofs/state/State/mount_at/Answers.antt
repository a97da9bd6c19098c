use Rattle.std.proofs.Common.{◌≡◌, ◌∷◌, [], ◌∙◌, get_or, sym, ap, map}
use Rattle.run_state.specs.Mirror.{scopes_of, state_of}
use Rattle.run_state.specs.Mounts.{mounts_in}
use Rattle.run_state.proofs.Changed.{if_ok}
use Rattle.run_state.proofs.Entries.{number_read}
use Rattle.run_state.proofs.Mounts.{mount_hidden, shows_then, whatever}
use Rattle.run_state.proofs.Released.{scoped}
use Rattle.run_state.proofs.Ways.{some_through}
use Rattle.run_state.proofs.state.State.mount_at.Goals as goal

pub bounds-as_slice-index : goal.bounds-as_slice-index
bounds-as_slice-index g c = let is = c.as_slice.ensures.items in rw is c.requires.within

pub hide-requires : goal.hide-requires
hide-requires g c =
    record {
      within = c.requires.within;
      own = sym (number_read c.as_slice.result.now c.args.self.now.fresh c.args.index 0 c.as_slice.ensures.items c.requires.within);
      hidden = c.in-Some.ensures.hidden;
    }

pub mount-requires : goal.mount-requires
mount-requires g c =
    record {
      within = c.requires.within;
      own = sym (number_read c.as_slice.result.now c.args.self.now.fresh c.args.index 0 c.as_slice.ensures.items c.requires.within);
      shown = c.in-None.ensures.shown;
    }

pub returns-in-Some-clause-mounted : goal.returns-in-Some-clause-mounted
returns-in-Some-clause-mounted g c =
    whatever c.hide.result
    (
    ap (λ rs. rs.table) c.hide.ensures.rows
    ∙ mount_hidden (c.args.self.now.rows).table _ (get_or c.args.self.now.fresh c.args.index 0)
    (number_read c.as_slice.result.now c.args.self.now.fresh c.args.index 0 c.as_slice.ensures.items c.requires.within) c.in-Some.ensures.unshown
    )

pub returns-in-Some-clause-others : goal.returns-in-Some-clause-others
returns-in-Some-clause-others g c =
    λ kept. c.hide.ensures.others kept ∙ ap (λ rs. scoped (state_of kept c.args.self.now) (scopes_of rs.table)) (sym c.hide.ensures.rows)

pub returns-in-None-clause-mounted : goal.returns-in-None-clause-mounted
returns-in-None-clause-mounted g c =
    c.mount.ensures.mounted
    ∙ ap (λ k. map (mounts_in (scopes_of (c.args.self.now.rows).table) (k ∷ [])) (c.args.self.now.rows).table)
    (number_read c.as_slice.result.now c.args.self.now.fresh c.args.index 0 c.as_slice.ensures.items c.requires.within)

pub returns-in-None-clause-others : goal.returns-in-None-clause-others
returns-in-None-clause-others g c = c.mount.ensures.others

pub returns-in-Some-clause-before : goal.returns-in-Some-clause-before
returns-in-Some-clause-before g c = c.hide.ensures.before

pub returns-in-None-clause-before : goal.returns-in-None-clause-before
returns-in-None-clause-before g c = c.mount.ensures.before

pub hider_past-requires : goal.hider_past-requires
hider_past-requires g c = record { known = c.requires.known }

pub shown_parent-next-requires : goal.shown_parent-next-requires
shown_parent-next-requires g c = record { shown = c.in-None.ensures.shown }

-- where a scope is hidden no other one is known to show
pub returns-in-Some-clause-known : goal.returns-in-Some-clause-known
returns-in-Some-clause-known g c = if_ok c.hide.result c.hide.ensures.none (λ next is. rw is tt)

-- the parent of a scope that becomes mounted shows as it did
pub returns-in-None-clause-known : goal.returns-in-None-clause-known
returns-in-None-clause-known g c =
    let rows = (c.args.self.now.rows).table in
    let one = get_or c.args.self.now.fresh c.args.index 0 in
    let read = number_read c.as_slice.result.now c.args.self.now.fresh c.args.index 0 c.as_slice.ensures.items c.requires.within in
    some_through c.shown_parent-next.result c.shown_parent-next.ensures
    (λ s shows. shows_then rows (c.mount.new.self.rows).table (one ∷ []) (c.mount.ensures.mounted ∙ ap (λ k. map (mounts_in (scopes_of rows) (k ∷ [])) rows) read) s shows)
