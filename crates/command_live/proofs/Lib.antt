mod Knowing
mod Noting
mod Returning
