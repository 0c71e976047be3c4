mod LastLook
mod SeenLines
