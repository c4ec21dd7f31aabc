-- One name for all definitions: a claim that is computed says `unfolding computing`, and each of them unfolds there.
use Rattle.rules.specs.Below.{all_below, count_below, highest_below, first_below, lowest_below, pick_below, list_below}
use Rattle.rules.specs.Bytes.{all255, replaced}
use Rattle.rules.specs.Shape.{within_limits}
use Rattle.rules.specs.Spare.{in_table, spare_bytes}
use Rattle.rules.specs.Page.{erased, page_of, page_at}
use Rattle.rules.specs.WellFormed.{W1, W2, W3, W4, W1to4, good_block, is_bad, pages_of, block_at, blocks_of, W5, is_complete, data_number, is_data, is_live, is_obsolete, W6, data_block, live_log, live_logs, W7, well_formed}
use Rattle.rules.specs.Content.{newest, in_log, in_data, holder, content}
use Rattle.rules.specs.Steps.{step_done, steps_done, taken, highest, copies, renewal, format_list, power_up_list, merge_list, victim, write_case, own_step, erase_after, own_list, write_list, block_write_list}
use Rattle.rules.specs.Replies.{first_refusal, good_blocks, format_refusal, power_up_refusal, read_refusal, write_refusal, block_write_refusal, format_reply, power_up_reply, write_reply, block_write_reply, read_reply, table_of, table_left, page_left, lent_page}

unfoldable pub computing : Unit {0}
unfolding all_below count_below highest_below first_below lowest_below pick_below list_below all255 replaced within_limits in_table spare_bytes erased page_of page_at
    W1 W2 W3 W4 W1to4 good_block is_bad pages_of block_at blocks_of W5 is_complete data_number is_data is_live is_obsolete W6 data_block live_log live_logs W7 well_formed
    newest in_log in_data holder content step_done steps_done taken highest copies renewal format_list power_up_list merge_list victim write_case own_step erase_after
    own_list write_list block_write_list first_refusal good_blocks format_refusal power_up_refusal read_refusal write_refusal block_write_refusal format_reply
    power_up_reply write_reply block_write_reply read_reply table_of table_left page_left lent_page
computing = tt
