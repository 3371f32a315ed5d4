-- Steps of worked conversations, which the checker computes.
use Rattle.std.proofs.Common.{refl}
use Rattle.namespace_model.specs.Access.{access_check}
use Rattle.namespace_model.specs.Append.{append}
use Rattle.namespace_model.specs.CheckAccess.{check_access}
use Rattle.namespace_model.specs.Create.{create}
use Rattle.namespace_model.specs.CreateFilesystem.{create_filesystem}
use Rattle.namespace_model.specs.Delete.{delete}
use Rattle.namespace_model.specs.Flush.{flush}
use Rattle.namespace_model.specs.ReadFile.{read_file}
use Rattle.namespace_model.specs.SetProperties.{set_properties}
use Rattle.namespace_model.specs.Step.{outcome}
use Rattle.namespace_model.specs.Worked.{AFilesystemIsMadeByTheSuperuserAlone, TheMaskLimitsANamedUser, TheOwnerIsJudgedByItsEntry, AStickyDirectoryGuardsItsChildren, AFlushFillsNoGap, ARangeIsCutToTheLastByte, ALeaseKeepsAWriterOutUntilItsEnd, ALeaseThatHasComeToItsEndLetsItIn, TheUmaskRestrictsNewNodes, ADirectoryThatIsNotEmptyStays, AnAppendThatFlushesFillsNoGap, AnAppendMayFlush, AnAppendMayTakeALease, AnAppendIsKeptOutByALease}

pub a_filesystem_is_made_by_the_superuser_alone : AFilesystemIsMadeByTheSuperuserAlone
unfolding outcome create_filesystem
a_filesystem_is_made_by_the_superuser_alone t = refl

pub the_mask_limits_a_named_user : TheMaskLimitsANamedUser
unfolding outcome check_access access_check
the_mask_limits_a_named_user t root there = rw (root, there) refl

pub the_owner_is_judged_by_its_entry : TheOwnerIsJudgedByItsEntry
unfolding outcome check_access access_check
the_owner_is_judged_by_its_entry t root there = rw (root, there) refl

pub a_sticky_directory_guards_its_children : AStickyDirectoryGuardsItsChildren
unfolding outcome delete access_check
a_sticky_directory_guards_its_children t root there = rw (root, there) refl

pub a_flush_fills_no_gap : AFlushFillsNoGap
unfolding outcome flush access_check
a_flush_fills_no_gap t root there = rw (root, there) refl

pub a_range_is_cut_to_the_last_byte : ARangeIsCutToTheLastByte
unfolding outcome read_file access_check
a_range_is_cut_to_the_last_byte t root there = rw (root, there) refl

pub a_lease_keeps_a_writer_out_until_its_end : ALeaseKeepsAWriterOutUntilItsEnd
unfolding outcome set_properties access_check
a_lease_keeps_a_writer_out_until_its_end t root there = rw (root, there) refl

pub a_lease_that_has_come_to_its_end_lets_it_in : ALeaseThatHasComeToItsEndLetsItIn
unfolding outcome set_properties access_check
a_lease_that_has_come_to_its_end_lets_it_in t root there = rw (root, there) refl

pub the_umask_restricts_new_nodes : TheUmaskRestrictsNewNodes
unfolding outcome create access_check
the_umask_restricts_new_nodes t root none = rw (root, none) (rw (root) refl)

pub a_directory_that_is_not_empty_stays : ADirectoryThatIsNotEmptyStays
unfolding outcome delete access_check
a_directory_that_is_not_empty_stays t root there below = rw (root, there, below) refl

pub an_append_that_flushes_fills_no_gap : AnAppendThatFlushesFillsNoGap
unfolding outcome append access_check
an_append_that_flushes_fills_no_gap t root there = rw (root, there) refl

pub an_append_may_flush : AnAppendMayFlush
unfolding outcome append access_check
an_append_may_flush t root there = rw (root, there) refl

pub an_append_may_take_a_lease : AnAppendMayTakeALease
unfolding outcome append access_check
an_append_may_take_a_lease t root there = rw (root, there) refl

pub an_append_is_kept_out_by_a_lease : AnAppendIsKeptOutByALease
unfolding outcome append access_check
an_append_is_kept_out_by_a_lease t root there = rw (root, there) refl
